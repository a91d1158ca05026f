use Rattle.std.proofs.Common.{◌≡◌, ◌^◌, ◌<◌, ◌≤◌, length, drop}
use Rattle.std.specs.Str.{all_ascii_digits}
use Rattle.book_lines.specs.Pieces.{value}
use Rattle.book_lines.proofs.pieces.read_number.Given as goal

abbrev pub invariant-loop-b : goal.invariant-loop-b
invariant-loop-b l = record {
  digits : all_ascii_digits l.s ≡ all_ascii_digits (drop l.b-index l.s);
  so_far : value 0 l.s ≡ value l.n (drop l.b-index l.s);
  small : l.n < 10 ^ l.b-index;
  short : length l.s ≤ 5;
}
