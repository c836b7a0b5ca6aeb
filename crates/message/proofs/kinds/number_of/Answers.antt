use borrow.Author.Rules.{rules}
use Rattle.message.proofs.Letters.{table, entry}
use Rattle.message.proofs.kinds.number_of.Goals as goal

pub returns-in_default : goal.returns-in_default
unfolding table
returns-in_default c = entry c.args.letter (search rules)
