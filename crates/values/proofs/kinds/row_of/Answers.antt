use Rattle.values.proofs.kinds.row_of.Goals as goal

pub returns-in-Bool : goal.returns-in-Bool
returns-in-Bool c = rw (c.row.ensures, c.in-Bool.is)

pub returns-in-Int2 : goal.returns-in-Int2
returns-in-Int2 c = rw (c.row-in-Int2.ensures, c.in-Int2.is)

pub returns-in-Int4 : goal.returns-in-Int4
returns-in-Int4 c = rw (c.row-in-Int4.ensures, c.in-Int4.is)

pub returns-in-Int8 : goal.returns-in-Int8
returns-in-Int8 c = rw (c.row-in-Int8.ensures, c.in-Int8.is)

pub returns-in-Float4 : goal.returns-in-Float4
returns-in-Float4 c = rw (c.row-in-Float4.ensures, c.in-Float4.is)

pub returns-in-Float8 : goal.returns-in-Float8
returns-in-Float8 c = rw (c.row-in-Float8.ensures, c.in-Float8.is)

pub returns-in-TimestampTz : goal.returns-in-TimestampTz
returns-in-TimestampTz c = rw (c.row-in-TimestampTz.ensures, c.in-TimestampTz.is)

pub returns-in-Raw : goal.returns-in-Raw
returns-in-Raw c = rw (c.row-in-Raw.ensures, c.in-Raw.is)
