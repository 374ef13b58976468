use Rattle.derivation_trees.specs.Parts.{not_first, not_other, sign_part, record_room, record_part}
use mathlib.Core.Path.{refl}
use Rattle.derivation_trees.proofs.parts.part_of.Goals as goal

pub returns-then-w-eq1 : goal.returns-then-w-eq1
returns-then-w-eq1 c = search not_first

pub returns-then-key-ge262144 : goal.returns-then-key-ge262144
returns-then-key-ge262144 c = search not_other

pub returns-then-key-lt2 : goal.returns-then-key-lt2
returns-then-key-lt2 c = search sign_part

pub part_entry-requires : goal.part_entry-requires
part_entry-requires c =
    let p = c.requires in let room = record_room _ _ _ _ p.0 p.1 c.if-key-lt2.false c.if-key-ge262144.false p.2 p.3 in (c.word_at-k.ensures, room.0, room.1)

pub returns : goal.returns
returns c =
    let p = c.requires in record_part _ _ _ _ p.0 p.1 c.if-key-lt2.false c.if-key-ge262144.false p.2 p.3 _ _ refl c.part_entry.ensures
