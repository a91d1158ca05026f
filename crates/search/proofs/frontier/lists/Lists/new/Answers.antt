use Rattle.search.specs.declared.frontier.lists.Mark.TheVariants.{Unseen}
use Rattle.search.proofs.Fills.{all_alike}
use Rattle.search.proofs.frontier.lists.Lists.new.Goals as goal

pub returns-clause-unseen : goal.returns-clause-unseen
returns-clause-unseen c = λ v. all_alike 2048 v Unseen
