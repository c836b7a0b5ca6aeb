use Rattle.std.proofs.Common.{arith}
use Rattle.catalog.specs.Table.{row_list, part, not_held_by}
use Rattle.catalog.proofs.Columns.{row_list_length}
use Rattle.catalog.proofs.Sorted.{keep_most}
use Rattle.catalog.proofs.Ranges.{table-size}
use Rattle.catalog.proofs.Releases.{drop_leaves}
use Rattle.catalog.proofs.announcements.Announcements.drop_rows.Goals as goal

pub move_rows-requires-clause-ordered : goal.move_rows-requires-clause-ordered
move_rows-requires-clause-ordered c = let a = c.args in let r = a.range in
    omega (
      arith,
      keep_most (not_held_by a.t) (part r.from r.size (row_list a.self.now)),
      table-size r.from r.size r.behind (row_list a.self.now) (omega (arith, row_list_length a.self.now)),
    )

pub returns : goal.returns
returns c = let a = c.args in let r = a.range in let k = c.keep_others-kept.ensures in
    drop_leaves r.from r.size r.behind a.t (row_list a.self.now) _ _ _ (omega (arith, row_list_length a.self.now)) k.end k.rows c.move_rows.ensures
