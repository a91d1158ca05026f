use Rattle.std.proofs.Common.{◌≡◌, [], None}
use Rattle.map_file.specs.Chains.{again, met, TailsBelow}
use Rattle.map_file.proofs.header.Records.find_tails.Given as goal

abbrev pub invariant-loop-junction : goal.invariant-loop-junction
invariant-loop-junction l = (again [] (met l.self.bytes.now l.junction) ≡ None) × TailsBelow l.self.bytes.now l.junction l.tails
