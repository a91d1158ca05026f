use Rattle.std.proofs.Common.{refl, None, ap, ◌∙◌, get_or, arith}
use Rattle.std.proofs.lemmas.List.{get_or-replicate}
use Rattle.map_file.specs.Chains.{met, tail_below}
use Rattle.map_file.proofs.Passed.{few_roads}
use Rattle.map_file.proofs.header.Records.find_tails.Goals as goal

pub loop-junction-init : goal.loop-junction-init
unfolding met tail_below
loop-junction-init c = (refl, (λ r rm. ap (λ t. get_or t r None) c.requires ∙ get_or-replicate 4097 r None None (omega (arith, few_roads c.args.self.now.bytes.now c.args.self.now.head))))
