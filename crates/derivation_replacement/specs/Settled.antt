-- What a question of replacement is asked of, and when it is answered without a look at the parts.
use Rattle.std.specs.Prelude.{ℕ, ◌+◌, ◌<◌, ◌≤◌, ◌≡◌, refl, List, Bool, true, false, eqb, length}
use Rattle.std.proofs.Common.{sym, ◌∙◌, arith}
use Rattle.reader.specs.Words.{Reader}
use Rattle.reader.specs.Trees.{Tree}
use Rattle.reader.specs.Variables.{indices_below}
use Rattle.derivation_trees.specs.Keys.{rank, decoded, Normal}
use Rattle.derivation_trees.specs.Parts.{Part}
use Rattle.derivation_known.specs.Known.{fits, Known, KnownFits}
use Rattle.derivation_paths.specs.declared.Left.{Left}
use Rattle.derivation_paths.specs.Paths.{Leaves}
use Rattle.derivation_paths.specs.Tables.{Tables}
use Rattle.derivation_replacement.specs.Replaced.{index_key, open_positive, part_falls}

-- the tables, the keys of the instance, the term and the body, and a depth that does not wrap below it
pub record Asking (rd : Reader) (keys reaches known : List ℕ) (x t j d : ℕ) : Type 0 where
  pub tables : Tables rd keys reaches
  pub facts : Known rd known
  pub whole : Normal rd (length keys) x
  pub term : Normal rd (length keys) t
  pub body : Normal rd (length keys) j
  pub room : d + rank j < 18446744073709551616

-- the tree of key j has index d or a larger one, and is not that index itself
pub record Open (rd : Reader) (j d : ℕ) : Type 0 where
  pub some : false ≡ indices_below d (decoded rd j)
  pub other : false ≡ index_key rd j d

-- r says yes by 1 and no by 0; it is 2 only where there are parts to compare
pub record Settled (rd : Reader) (x t j d r : ℕ) : Type 0 where
  pub plain : (r ≡ 2 → ⊥) → eqb r 1 ≡ fits rd x t j d
  pub parts : r ≡ 2 → Open rd j d

pub settled_as : (rd : Reader) (x t j d r : ℕ) (v : Bool) → (eqb r 1 ≡ v) × (r < 2) → v ≡ fits rd x t j d → Settled rd x t j d r
settled_as rd x t j d r v h e = record { plain = λ n. h.0 ∙ e; parts = λ two. absurd (omega (arith, h.1)) }

pub settled_known : (rd : Reader) (x t j d : ℕ) (known : List ℕ) (r : Bool) → Known rd known → KnownFits known x t j d r → r ≡ true → Settled rd x t j d 1
settled_known rd x t j d known r k h e = record { plain = λ n. sym (h.holds rd k e); parts = λ two. absurd (omega arith) }

pub settled_open : (rd : Reader) (x t j d : ℕ) (b i : Bool) → b ≡ indices_below d (decoded rd j) → b ≡ false → i ≡ index_key rd j d → i ≡ false → Settled rd x t j d 2
settled_open rd x t j d b i eb hb ei hi = record { plain = λ n. absurd (n refl); parts = λ two. record { some = sym hb ∙ eb; other = sym hi ∙ ei } }

pub open_some : (rd : Reader) (j d : ℕ) → Open rd j d → 0 < j
open_some rd j d o = open_positive rd j d false o.some refl

-- The question after a call, and that of a part of each tree: y and z are the keys of the parts.
module _ (rd : Reader) (keys reaches known after : List ℕ) (x t j d : ℕ) (asking : Asking rd keys reaches known x t j d) (kept : Known rd after) where
  pub asking_after : Asking rd keys reaches after x t j d
  asking_after = record { tables = asking.tables; facts = kept; whole = asking.whole; term = asking.term; body = asking.body; room = asking.room }

  pub asking_part : (e y z : ℕ) (u v : Tree) → 0 < j → e ≤ d + 1 → Part rd (length keys) x y u → Part rd (length keys) j z v → Asking rd keys reaches after y t z e
  asking_part e y z u v p h py pz = record {
    tables = asking.tables;
    facts = kept;
    whole = py.stands.normal;
    term = asking.term;
    body = pz.stands.normal;
    room = (part_falls rd (length keys) j d e z v pz p asking.room h).1;
  }

-- The question after `follow`.
pub asking_left : (rd : Reader) (keys reaches known : List ℕ) (x t j d : ℕ) (r : Left) → Asking rd keys reaches known x t j d → Leaves rd (length keys) x j d r →
    Asking rd keys reaches known r.whole t r.body r.depth
asking_left rd keys reaches known x t j d r asking left = record {
  tables = asking.tables;
  facts = asking.facts;
  whole = left.whole;
  term = asking.term;
  body = left.body;
  room = omega (arith, asking.room, left.room);
}
