-- How a refusal is told.
use Rattle.std.specs.Prelude.{ℕ, zero, suc, Bool, true, false, Some, None, Ok, Err, Option, Result}
use Rattle.roads.specs.declared.fault.Refusal.{Refusal}
use Rattle.roads.specs.declared.fault.Refusal.TheVariants.{Length, Limits, Field, Chain, Junction, Road, Already, NotClosed, Full, NotReady, Short, NoWay, FalseSheet, Line}
use Rattle.roads.specs.declared.fault.Part.{Part}
use Rattle.roads.specs.declared.fault.Fault.{Fault}
use Rattle.roads.specs.declared.fault.Report.{Report}

-- the number of each refusal
abbrev pub number : Refusal → ℕ
number Length = 1
number Limits = 2
number Field = 3
number Chain = 4
number Junction = 5
number Road = 6
number Already = 7
number NotClosed = 8
number Full = 9
number NotReady = 10
number Short = 11
number NoWay = 12
number FalseSheet = 13
number Line = 14

-- a fault as it is told
abbrev pub report : Fault → Report
report f = record { number = number f.refusal; place = f.place; part = f.part }

-- what is told of an answer: nothing where the call is accepted
abbrev pub reported : {X : Type 0} → Result X Fault → Option Report
reported (Ok x) = None
reported (Err f) = Some (report f)

-- a check: nothing where the test holds, else the refusal with this number, place and part
abbrev pub unless : Bool → ℕ → ℕ → Part → Option Report
unless true refusal place part = None
unless false refusal place part = Some (record { number = refusal; place = place; part = part })

-- the first of two checks that fails
abbrev pub or_else : Option Report → Option Report → Option Report
or_else None later = later
or_else (Some x) later = Some x

-- the first that fails of the checks f 0, f 1, .., f (k - 1)
abbrev pub first_below : (ℕ → Option Report) → ℕ → Option Report
first_below f zero = None
first_below f (suc k) = or_else (first_below f k) (f k)
