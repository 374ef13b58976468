-- Items of one chain found along another, and the ways out of the code that looks for them.
use Rattle.std.specs.Prelude.{ℕ, suc, ◌-◌, ◌<◌, ◌≡◌, refl, List, [], ◌∷◌, ◌++◌, Bool, true, false}
use Rattle.std.proofs.Common.{sym, ◌∙◌, arith}
use Rattle.std.proofs.lemmas.Bool.{false≢true}
use Rattle.reader.specs.Words.{Reader}
use Rattle.reader.specs.Tests.{every}
use Rattle.reader.specs.Trees.{Tree, lower, same}
use Rattle.reader.specs.TreeLaws.{same_self}
use Rattle.reader.specs.Members.{member}
use Rattle.derivation_rules.specs.Erase.{bare_tree}
use Rattle.derivation_trees.specs.Keys.{decoded}
use Rattle.derivation_trees.specs.Table.{KeyOf}
use Rattle.derivation_frames.specs.Frames.{start_at, entry_at, added_from, chain_trees, members_at}
use Rattle.derivation_forms.specs.Formed.{chain_zero, chain_step}
use Rattle.derivation_members.specs.Needs.{held}

-- the items of chain p are items of chain b
pub record Behind (rd : Reader) (b p : ℕ) : Type 0 where
  pub held_there : (t : Tree) → held (chain_trees rd p) t ≡ true → held (chain_trees rd b) t ≡ true

-- r is a chain of items of chain b; where it is not 0, the tree of key x is one of those
pub record Found (rd : Reader) (size b x r : ℕ) : Type 0 where
  pub inside : r < size
  pub behind : Behind rd b r
  pub holds : (r ≡ 0 → ⊥) → held (chain_trees rd b) (decoded rd x) ≡ true

pub behind_self : (rd : Reader) (b : ℕ) → Behind rd b b
behind_self rd b = record { held_there = λ t h. h }

pub behind_more : (rd : Reader) (b p q : ℕ) → Behind rd b p → Behind rd p q → Behind rd b q
behind_more rd b p q f g = record { held_there = λ t h. f.held_there t (g.held_there t h) }

-- the chain after a link
pub behind_next : (rd : Reader) (p q next : ℕ) → Behind rd p q → (q ≡ 0 → ⊥) → next ≡ lower rd q 3 → Behind rd p next
unfolding held member
behind_next rd p q next f some e = record { held_there = λ t h. f.held_there t (rw (chain_step rd q (omega arith), ← e) (go (same (bare_tree rd (lower rd q 1)) t) (member t (chain_trees rd next)) h)) }
  where
    go : (a b : Bool) → b ≡ true → elim a as (λ x. Bool) [ true ↦ true | false ↦ b ] ≡ true
    go true b h = refl
    go false b h = h

-- The ways out of `found`.
pub found_none : (rd : Reader) (size p x : ℕ) → p < size → Found rd size p x 0
unfolding held member
found_none rd size p x h = record {
  inside = omega arith;
  behind = record { held_there = λ t e. absurd (false≢true (sym (rw (chain_zero rd) refl) ∙ e)) };
  holds = λ n. absurd (n refl);
}

pub found_here : (rd : Reader) (size p x q item k : ℕ) → Behind rd p q → (q ≡ 0 → ⊥) → q < size → item ≡ lower rd q 1 → KeyOf rd size k (bare_tree rd item) → k ≡ x → Found rd size p x q
unfolding held member
found_here rd size p x q item k f some inside ei key e = record {
  inside = inside;
  behind = f;
  holds = λ n. f.held_there (decoded rd x) (rw (chain_step rd q (omega arith)) (first (same (bare_tree rd (lower rd q 1)) (decoded rd x)) (member (decoded rd x) (chain_trees rd (lower rd q 3))) one));
}
  where
    one : same (bare_tree rd (lower rd q 1)) (decoded rd x) ≡ true
    one = let is : bare_tree rd (lower rd q 1) ≡ decoded rd x = rw (← ei, ← e) (sym key.stands.means) in rw is (same_self (decoded rd x))

    first : (s b : Bool) → s ≡ true → elim s as (λ x. Bool) [ true ↦ true | false ↦ b ] ≡ true
    first s b h = rw h refl

-- The ways out of `sought`.
pub found_behind : (rd : Reader) (size b p x r : ℕ) → Behind rd b p → Found rd size p x r → Found rd size b x r
found_behind rd size b p x r f g = record {
  inside = g.inside;
  behind = behind_more rd b p r f g.behind;
  holds = λ n. f.held_there (decoded rd x) (g.holds n);
}

-- The way out of `in_order` where an item is found.
pub found_item : (rd : Reader) (size b x r item : ℕ) → Found rd size b x r → (r ≡ 0 → ⊥) → KeyOf rd size x (bare_tree rd item) → true ≡ held (chain_trees rd b) (bare_tree rd item)
found_item rd size b x r item f some key = rw (← key.stands.means) (sym (f.holds some))

-- Items of the chain of members are members.
member_more : (t : Tree) (us vs : List Tree) → member t us ≡ true → member t (us ++ vs) ≡ true
unfolding member
member_more t [] vs h = absurd (false≢true h)
member_more t (u ∷ us) vs h = go (same u t) (member t us) (member t (us ++ vs)) (member_more t us vs) h
  where
    go : (s a b : Bool) → (a ≡ true → b ≡ true) → elim s as (λ x. Bool) [ true ↦ true | false ↦ a ] ≡ true → elim s as (λ x. Bool) [ true ↦ true | false ↦ b ] ≡ true
    go true a b f h = refl
    go false a b f h = f h

every_more : (us vs ts : List Tree) → every (held us) ts ≡ true → every (held (us ++ vs)) ts ≡ true
unfolding every held
every_more us vs [] h = refl
every_more us vs (t ∷ ts) h =
    go (member t us) (member t (us ++ vs)) (every (held us) ts) (every (held (us ++ vs)) ts) (member_more t us vs) (every_more us vs ts) h
  where
    go : (a b c d : Bool) → (a ≡ true → b ≡ true) → (c ≡ true → d ≡ true) → elim a as (λ x. Bool) [ true ↦ c | false ↦ false ] ≡ true →
        elim b as (λ x. Bool) [ true ↦ d | false ↦ false ] ≡ true
    go true b c d f g h = rw (f refl) (g h)
    go false b c d f g h = absurd (false≢true h)

pub order_held : (rd : Reader) (frames : List ℕ) (d s b : ℕ) (ts : List Tree) → s ≡ start_at frames d → b ≡ entry_at frames s →
    every (held (chain_trees rd b)) ts ≡ true → true ≡ every (held (members_at rd frames d)) ts
unfolding members_at
order_held rd frames d s b ts es eb h =
    let is : b ≡ entry_at frames (start_at frames d) = eb ∙ rw es refl in
    sym (every_more (chain_trees rd (entry_at frames (start_at frames d))) (added_from rd frames (d - start_at frames d) (suc (start_at frames d))) ts (rw is at h))
