-- The keys of what a form names, and the ways out of the code that makes them.
use Rattle.std.specs.Prelude.{ℕ, zero, suc, ◌+◌, ◌-◌, ◌/◌, ◌%◌, ◌<◌, ◌≤◌, ◌≡◌, refl, List, [], ◌∷◌, map, get_or, length}
use Rattle.std.proofs.Common.{sym, ◌∙◌, arith}
use Rattle.std.proofs.Math.Path.{ap}
use borrow.Author.Tests.{eq-eqb, ne_eqb, lt-ltb, le-ltb}
use Rattle.reader.specs.Words.{Reader}
use Rattle.reader.specs.Tests.{if_eq, if_lt}
use Rattle.reader.specs.Trees.{Tree, leaf, lower, first_of, second_of, ¬ᵗ◌}
use Rattle.reader.specs.Chains.{items, parts}
use Rattle.reader.specs.TreeLaws.{lower_below, tree_zero}
use Rattle.reader_chains.specs.Shapes.{lower_zero}
use Rattle.reader_chains.specs.Chains.{link_at, item_at, link_none, link_first, link_next, item_items}
use Rattle.derivation_rules.specs.Erase.{⌊◌⌋, bare_tree, bare_parts}
use Rattle.reader.specs.Members.{part}
use Rattle.derivation_trees.specs.Keys.{negations_of, decoded, Normal, Stands}
use Rattle.derivation_trees.specs.Table.{Table, KeyOf}
use Rattle.derivation_trees.specs.Parts.{Part}
use Rattle.derivation_tables.specs.Tables.{source_tree, step_tree, form_tree}

-- a goal's key and a node, beside the keys of the records
pub record Given (rd : Reader) (keys : List ℕ) (goal n : ℕ) : Type 0 where
  pub table : Table rd keys
  pub small : length keys ≤ 250000
  pub normal : Normal rd (length keys) goal
  pub few : negations_of goal ≤ 262142
  pub within : n < length keys

-- the key r stands for t, and has at most `more` negations more than a bound on those of the goal
pub record Formed (rd : Reader) (size goal more r : ℕ) (t : Tree) : Type 0 where
  pub stands : Stands rd size r t
  pub few : (b : ℕ) → size ≤ b → negations_of goal ≤ b → negations_of r ≤ b + more

past : {A B : Type 0} (f : A → B) (xs : List A) (j : ℕ) (a : A) (b : B) → b ≡ f a → get_or (map f xs) j b ≡ f (get_or xs j a)
past f [] zero a b e = e
past f [] (suc j) a b e = e
past f (x ∷ xs) zero a b e = refl
past f (x ∷ xs) (suc j) a b e = past f xs j a b e

bare_zero : (rd : Reader) → leaf ≡ bare_tree rd 0
unfolding bare_tree ⌊◌⌋
bare_zero rd = rw (tree_zero rd) refl

-- part j of a node, the empty tree where it has none
part_tree : (rd : Reader) (n j : ℕ) → part (bare_parts rd n) j ≡ bare_tree rd (item_at rd (lower rd n 1) j)
unfolding bare_parts parts
part_tree rd n j = past (bare_tree rd) (items rd (lower rd n 1)) j 0 leaf (bare_zero rd) ∙ ap (bare_tree rd) (sym (item_items rd j (lower rd n 1)))

pub lower_most : (rd : Reader) (i w : ℕ) → lower rd i w ≤ i
lower_most rd zero w = omega (arith, lower_zero rd w)
lower_most rd (suc i) w = omega (arith, lower_below rd (suc i) w (omega arith))

link_most : (rd : Reader) (j c : ℕ) → link_at rd c j ≤ c
link_most rd zero c = omega (arith, link_first rd c)
link_most rd (suc j) zero = omega (arith, link_none rd (suc j))
link_most rd (suc j) (suc c) =
    omega (arith, link_next rd (suc c) j (omega arith), link_most rd j (lower rd (suc c) 3), lower_below rd (suc c) 3 (omega arith))

pub source_in : (rd : Reader) (keys : List ℕ) (goal n j c r : ℕ) → Given rd keys goal n → c ≡ lower rd n 1 → r ≡ item_at rd c j → r < length keys
unfolding item_at
source_in rd keys goal n j c r given ec e = omega (arith, given.within, lower_most rd n 1, link_most rd j c, lower_most rd (link_at rd c j) 1)

-- The ways out of `source_key`.
module _ (rd : Reader) (keys : List ℕ) (goal n w : ℕ) (given : Given rd keys goal n) where
  pub source_goal : w < 2 → Formed rd (length keys) goal 0 goal (source_tree (bare_parts rd n) (decoded rd goal) w)
  unfolding source_tree if_lt
  source_goal h = record {
    stands = record { normal = given.normal; means = simp (source_tree, if_lt, lt-ltb w 2 h) };
    few = λ b p q. omega arith;
  }

  pub source_part : 2 ≤ w → (c part r : ℕ) → c ≡ lower rd n 1 → part ≡ item_at rd c (w - 2) → KeyOf rd (length keys) r (bare_tree rd part) →
      Formed rd (length keys) goal 0 r (source_tree (bare_parts rd n) (decoded rd goal) w)
  unfolding source_tree if_lt
  source_part h c part r ec ep k = record {
    stands = record {
      normal = k.stands.normal;
      means = k.stands.means ∙ simp (source_tree, if_lt, le-ltb w 2 h, part_tree rd n (w - 2), ← ec, ← ep);
    };
    few = λ b p q. omega (arith, k.few);
  }

-- The ways out of `form_key`.
module _ (rd : Reader) (keys : List ℕ) (goal n form x : ℕ) (source : Formed rd (length keys) goal 0 x (source_tree (bare_parts rd n) (decoded rd goal) (form / 4))) where
  pub form_self : form % 4 ≡ 0 → Formed rd (length keys) goal 1 x (form_tree (bare_parts rd n) (decoded rd goal) form)
  unfolding form_tree step_tree if_eq
  form_self h = record {
    stands = record { normal = source.stands.normal; means = source.stands.means ∙ simp (form_tree, step_tree, if_eq, eq-eqb (form % 4) 0 h) };
    few = λ b p q. omega (arith, source.few b p q);
  }

  module _ (no-0 : form % 4 ≡ 0 → ⊥) where
    pub form_first : form % 4 ≡ 1 → (r : ℕ) → Part rd (length keys) x r (first_of (decoded rd x)) →
        Formed rd (length keys) goal 1 r (form_tree (bare_parts rd n) (decoded rd goal) form)
    unfolding form_tree step_tree if_eq
    form_first h r p = record {
      stands = record {
        normal = p.stands.normal;
        means = p.stands.means ∙ ap first_of source.stands.means ∙ simp (form_tree, step_tree, if_eq, ne_eqb (form % 4) 0 no-0, eq-eqb (form % 4) 1 h);
      };
      few = λ b low q. omega (arith, p.few b low (omega (arith, source.few b low q)));
    }

    module _ (no-1 : form % 4 ≡ 1 → ⊥) where
      pub form_second : form % 4 ≡ 2 → (r : ℕ) → Part rd (length keys) x r (second_of (decoded rd x)) →
          Formed rd (length keys) goal 1 r (form_tree (bare_parts rd n) (decoded rd goal) form)
      unfolding form_tree step_tree if_eq
      form_second h r p = record {
        stands = record {
          normal = p.stands.normal;
          means = p.stands.means ∙ ap second_of source.stands.means
              ∙ simp (form_tree, step_tree, if_eq, ne_eqb (form % 4) 0 no-0, ne_eqb (form % 4) 1 no-1, eq-eqb (form % 4) 2 h);
        };
        few = λ b low q. omega (arith, p.few b low (omega (arith, source.few b low q)));
      }

      pub form_negated : (form % 4 ≡ 2 → ⊥) → (r : ℕ) → Stands rd (length keys) r (¬ᵗ (decoded rd x)) × (negations_of r ≡ negations_of x + 1) →
          Formed rd (length keys) goal 1 r (form_tree (bare_parts rd n) (decoded rd goal) form)
      unfolding form_tree step_tree if_eq
      form_negated h r p = record {
        stands = record {
          normal = p.0.normal;
          means = p.0.means ∙ ap (λ (t : Tree). ¬ᵗ t) source.stands.means
              ∙ simp (form_tree, step_tree, if_eq, ne_eqb (form % 4) 0 no-0, ne_eqb (form % 4) 1 no-1, ne_eqb (form % 4) 2 h);
        };
        few = λ b low q. let own : negations_of x ≤ b + 0 = source.few b low q in let one : negations_of r ≡ negations_of x + 1 = p.1 in omega arith;
      }

-- what the makers ask of the source's key
module _ (rd : Reader) (keys : List ℕ) (goal n x : ℕ) (t : Tree) (given : Given rd keys goal n) (source : Formed rd (length keys) goal 0 x t) where
  pub source_normal : Normal rd (length keys) x
  source_normal = source.stands.normal

  pub source_few : negations_of x < 262143
  source_few = let own : negations_of x ≤ 262142 + 0 = source.few 262142 (omega (arith, given.small)) given.few in omega arith
