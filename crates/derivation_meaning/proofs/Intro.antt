-- Nodes from their records: what a proof that builds a derivation node by node needs beside the constructors of Derives.
use Rattle.std.specs.Prelude.{ℕ, ◌<◌, ◌≤◌, ◌≡◌, refl, List, [], ◌∷◌, ◌++◌, map, ◌⊎◌, length}
use Rattle.std.proofs.Common.{ap, ◌∙◌, inl, inr}
use native.Mathlib.Omega.{arith}
use Rattle.reader.specs.Words.{Reader}
use Rattle.reader.specs.Trees.{Tree, lower}
use Rattle.reader.specs.Chains.{items, parts, premises}
use Rattle.reader.specs.TreeLaws.{items_zero, items_step}
use Rattle.reader.specs.Members.{◌▹◌}
use Rattle.reader.specs.Notions.{◌∈◌, here, there}
use Rattle.reader_laws.specs.Scan.{when_less}
use Rattle.derivation_rules.specs.Erase.{bare_tree, bare_parts}
use Rattle.derivation_meaning.specs.Derives.{DerivationNode}

-- the links from record l on have the items xs
unfoldable pub Linked : Reader → ℕ → List ℕ → Type 0
Linked rd l [] = l ≡ 0
Linked rd l (x ∷ xs) = (m : ℕ) × (rd l 1 ≡ x) × (x < l) × (rd l 3 ≡ m) × (m < l) × Linked rd m xs

lower_is : (rd : Reader) (i w a : ℕ) → rd i w ≡ a → a < i → lower rd i w ≡ a
unfolding lower
lower_is rd i w a e h = let l : rd i w < i = rw e h in when_less (rd i w) 0 (rd i w) i l ∙ e

pub linked_items : (rd : Reader) (l : ℕ) (xs : List ℕ) → Linked rd l xs → items rd l ≡ xs
unfolding Linked
linked_items rd l [] e = rw e (items_zero rd)
linked_items rd l (x ∷ xs) (m, item, small, next, less, rest) =
    rw (items_step rd l (omega arith), lower_is rd l 1 x item small, lower_is rd l 3 m next less, linked_items rd m xs rest)

-- chains of no link, of one, of two, of three
pub no_links : (rd : Reader) → Linked rd 0 []
unfolding Linked
no_links rd = refl

module _ (rd : Reader) where
  pub one_link : (l x : ℕ) → rd l 1 ≡ x → rd l 3 ≡ 0 → x < l → Linked rd l (x ∷ [])
  unfolding Linked
  one_link l x item next small = (0, item, small, next, omega arith, refl)

  pub link_more : (l x m : ℕ) (xs : List ℕ) → rd l 1 ≡ x → rd l 3 ≡ m → (x < l) × (m < l) → Linked rd m xs → Linked rd l (x ∷ xs)
  unfolding Linked
  link_more l x m xs item next small rest = (m, item, small.0, next, small.1, rest)

-- Record n is of kind k; its chain of parts starts at link l and has the items is, that of its premises starts at link c and has the items xs.
pub node_at : (rd : Reader) (n k l c : ℕ) (is xs : List ℕ) (ps Γ : List Tree) (d : ℕ) →
    rd n 0 ≡ k → rd n 1 ≡ l → rd n 2 ≡ c → (l < n) × (c < n) → Linked rd l is → Linked rd c xs → map (bare_tree rd) is ≡ ps →
    (length Γ ≤ 2048) × (d ≤ 8192) → DerivationNode rd n k ps xs Γ d
unfolding bare_parts parts premises
node_at rd n k l c is xs ps Γ d kind first second small part-links premise-links trees limits =
    let part_items : items rd (lower rd n 1) ≡ is = ap (items rd) (lower_is rd n 1 l first small.0) ∙ linked_items rd l is part-links in
    record {
      kind = kind;
      parts_of = ap (map (bare_tree rd)) part_items ∙ trees;
      premises_of = ap (items rd) (lower_is rd n 2 c second small.1) ∙ linked_items rd c xs premise-links;
      members = limits.0;
      depth = limits.1;
    }

-- Members.

-- a member stays one when others are added
pub in_longer : {t : Tree} {Γ : List Tree} (Δ : List Tree) → t ∈ Γ → t ∈ (Γ ++ Δ)
in_longer Δ (here e) = here e
in_longer Δ (there m) = there (in_longer Δ m)

-- what is added last is a member
pub in_last : (Γ : List Tree) (t : Tree) → t ∈ Γ ▹ t
in_last [] t = here refl
in_last (u ∷ Γ) t = there (in_last Γ t)

-- a member is an old one or the one added last
pub last_in : (Γ : List Tree) (t u : Tree) → t ∈ Γ ▹ u → (t ∈ Γ) ⊎ (t ≡ u)
last_in [] t u (here e) = inr e
last_in [] t u (there m) = inl m
last_in (v ∷ Γ) t u (here e) = inl (here e)
last_in (v ∷ Γ) t u (there m) = go (last_in Γ t u m)
  where
    go : (t ∈ Γ) ⊎ (t ≡ u) → (t ∈ (v ∷ Γ)) ⊎ (t ≡ u)
    go (inl h) = inl (there h)
    go (inr e) = inr e

-- members of a list of trees, each changed
pub in_map : {t : Tree} {Γ : List Tree} (f : Tree → Tree) → t ∈ Γ → f t ∈ map f Γ
in_map f (here e) = here (ap f e)
in_map f (there m) = there (in_map f m)
