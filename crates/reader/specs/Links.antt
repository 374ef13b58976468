-- What an iterator over a chain has left, and tests of all its items.
use Rattle.std.specs.Prelude.{ℕ, ◌≡◌, refl, List, [], ◌∷◌, map, Bool, true, false, ◌&&◌}
use Rattle.std.specs.List.{list_all}
use Rattle.reader.specs.declared.chains.Links.{Links}
use Rattle.reader.specs.Words.{Reader}
use Rattle.reader.specs.Files.{words}
use Rattle.reader.specs.Tests.{every}
use Rattle.reader.specs.Trees.{Tree, lower, tree}
use Rattle.reader.specs.Chains.{linked, items, item_trees}

abbrev pub left : Links → List ℕ
left l = linked (words l.files.now) l.next

-- every link passes the test where its item's tree does
pub every_link : (rd : Reader) (test : Tree → Bool) (c : ℕ) → list_all (λ l. test (tree rd (lower rd l 1))) (linked rd c) ≡ every test (item_trees rd c)
unfolding item_trees items every
every_link rd test c = go (linked rd c)
  where
    go : (links : List ℕ) → list_all (λ l. test (tree rd (lower rd l 1))) links ≡ every test (map (tree rd) (map (λ l. lower rd l 1) links))
    go [] = refl
    go (l ∷ links) = on (test (tree rd (lower rd l 1))) (go links)
      where
        on : (b : Bool) → list_all (λ l. test (tree rd (lower rd l 1))) links ≡ every test (map (tree rd) (map (λ l. lower rd l 1) links)) →
            (b && list_all (λ l. test (tree rd (lower rd l 1))) links) ≡ elim b as (λ b. Bool) [ true ↦ every test (map (tree rd) (map (λ l. lower rd l 1) links)) | false ↦ false ]
        on true e = e
        on false e = refl
