use Rattle.std.proofs.Common.{◌≡◌, ◌==◌, Some, position, sym, rules}
use Rattle.book_lines.proofs.Cuts.{placed}
use Rattle.book_lines.proofs.pieces.cut_at.Goals as goal

pub returns : goal.returns
returns c =
    let here : Some c.in_ok-i.i ≡ position (λ b. b == c.args.at) c.args.s.now = search rules in
    let at = placed c.args.at c.args.s.now c.in_ok-i.i here in
    (sym at.1, at.2)
