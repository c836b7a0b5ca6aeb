use borrow.Author.Tests.{eq-eqb, ne_eqb}
use Rattle.message.proofs.fields.has_value.Goals as goal

pub returns-then-letter-eq116 : goal.returns-then-letter-eq116
returns-then-letter-eq116 c = rw (eq-eqb c.args.letter 0x74 c.if-letter-eq116.true)

pub returns-else-letter-eq116 : goal.returns-else-letter-eq116
returns-else-letter-eq116 c = rw (ne_eqb c.args.letter 0x74 c.if-letter-eq116.false)
