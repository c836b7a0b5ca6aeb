-- To be believed (demand 2). What a message says, apart from where its parts lie.
use Rattle.std.specs.Prelude.{ℕ, List, [], ◌∷◌, ◌≡◌, ℤ, Ok}
use Rattle.std.specs.Int.{w64}
use Rattle.std.proofs.Common.{of_z}
use Rattle.wire.specs.declared.Span.{Span}
use Rattle.message.specs.declared.OldTuple.{OldTuple}
use Rattle.message.specs.declared.OldTuple.TheVariants.{Nothing, Key, Full}
use Rattle.message.specs.declared.Message.{Message}
use Rattle.message.specs.declared.Message.TheVariants as a
use Rattle.message.specs.Layout.{id, groups_end, tuple_end}
use Rattle.message.specs.Kinds.{column_fields}
use Rattle.message.specs.Encode.{cut, from_to, kind_of_message}

-- a number; the bytes of a text, a content, a tuple, a Relation's columns or a Truncate's OIDs
pub data Content : Type 0 where
  num : ℕ → Content
  bytes : List ℕ → Content

-- a time by its 64 bits
abbrev pub time : ℤ → Content
time t = num (of_z w64 t)

module _ (xs : List ℕ) where
  abbrev pub text : Span → Content
  text s = bytes (cut xs s.start s.length)

  abbrev pub tuple : ℕ → Content
  tuple start = bytes (from_to xs start (tuple_end xs (Ok start)))

  abbrev pub columns : (n start : ℕ) → Content
  columns n start = bytes (from_to xs start (groups_end column_fields xs n (Ok start)))

  abbrev pub oids : (n start : ℕ) → Content
  oids n start = bytes (from_to xs start (groups_end (id ∷ []) xs n (Ok start)))

  -- an old tuple, its letter first, and what follows
  abbrev pub old : OldTuple → List Content → List Content
  old Nothing r = num 0 ∷ r
  old (Key start) r = num 0x4B ∷ tuple start ∷ r
  old (Full start) r = num 0x4F ∷ tuple start ∷ r

  -- all that a message says, whose parts lie in xs
  abbrev pub contents : Message → List Content
  contents (a.Begin m) = num m.final_lsn ∷ time m.time ∷ num m.xid ∷ []
  contents (a.Commit m) = num m.flags ∷ num m.commit_lsn ∷ num m.end_lsn ∷ time m.time ∷ []
  contents (a.Origin m) = num m.lsn ∷ text m.name ∷ []
  contents (a.Relation m) = num m.xid ∷ num m.relation ∷ text m.namespace ∷ text m.name ∷ num m.identity ∷ num m.count ∷ columns m.count m.columns ∷ []
  contents (a.«Type» m) = num m.xid ∷ num m.oid ∷ text m.namespace ∷ text m.name ∷ []
  contents (a.Insert m) = num m.xid ∷ num m.relation ∷ tuple m.tuple ∷ []
  contents (a.Update m) = num m.xid ∷ num m.relation ∷ old m.old (tuple m.tuple ∷ [])
  contents (a.Delete m) = num m.xid ∷ num m.relation ∷ num m.image ∷ tuple m.tuple ∷ []
  contents (a.Truncate m) = num m.xid ∷ num m.count ∷ num m.options ∷ oids m.count m.relations ∷ []
  contents (a.Message m) = num m.xid ∷ num m.flags ∷ num m.lsn ∷ text m.prefix ∷ text m.content ∷ []
  contents (a.StreamStart xid first) = num xid ∷ num first ∷ []
  contents a.StreamStop = []
  contents (a.StreamCommit m) = num m.xid ∷ num m.flags ∷ num m.commit_lsn ∷ num m.end_lsn ∷ time m.time ∷ []
  contents (a.StreamAbort xid sub) = num xid ∷ num sub ∷ []

-- one kind, and the same numbers, texts and columns: m with its parts in xs, m' with its parts in ys
pub record SameMessage (m : Message) (xs : List ℕ) (m' : Message) (ys : List ℕ) : Type 0 where
  pub kind : kind_of_message m' ≡ kind_of_message m
  pub says : contents ys m' ≡ contents xs m
