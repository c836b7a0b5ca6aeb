use borrow.Author.Tests.{ne_eqb}
use Rattle.values.proofs.kinds.kind_of_type.Goals as goal

pub returns-in-16 : goal.returns-in-16
returns-in-16 c = rw c.in-16.is

pub returns-in-21 : goal.returns-in-21
returns-in-21 c = rw c.in-21.is

pub returns-in-23 : goal.returns-in-23
returns-in-23 c = rw c.in-23.is

pub returns-in-20 : goal.returns-in-20
returns-in-20 c = rw c.in-20.is

pub returns-in-700 : goal.returns-in-700
returns-in-700 c = rw c.in-700.is

pub returns-in-701 : goal.returns-in-701
returns-in-701 c = rw c.in-701.is

pub returns-in-1184 : goal.returns-in-1184
returns-in-1184 c = rw c.in-1184.is

pub returns-in_default : goal.returns-in_default
returns-in_default c =
    let o = c.args.type_oid in
    let n = c.in_default.in_default-own.rest in
    rw (ne_eqb o 16 n.0.0.0.0.0.0.1, ne_eqb o 21 n.0.0.0.0.0.1, ne_eqb o 23 n.0.0.0.0.1, ne_eqb o 20 n.0.0.0.1, ne_eqb o 700 n.0.0.1, ne_eqb o 701 n.0.1, ne_eqb o 1184 n.1)
