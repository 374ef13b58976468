-- Typing of each kind of record.
use Rattle.std.specs.Prelude.{ℕ, ◌+◌, List, [], ◌∷◌, map, Bool, true, false, eqb, get_or, length, drop}
use Rattle.reader.specs.Words.{Reader}
use Rattle.reader.specs.Tests.{both, every, if_eq}
use Rattle.reader.specs.Kinds.{kinds}
use Rattle.reader.specs.Trees.{Tree, leaf, node, lower, tree, kind_of, first_of, second_of, third_of, same, setᵗ, pairᵗ}
use Rattle.reader.specs.Chains.{item_trees}
use Rattle.reader.specs.Variables.{bears, types_below, instance}

-- The type of a term: a constant's and a bound variable's type, and the own type of every other term, for an application the first of its types.
unfoldable pub type_of : Tree → Tree
type_of leaf = leaf
type_of (node k a x y z) =
    if_eq k kinds.constant x
    (if_eq k kinds.bound_variable y
    (if_eq k kinds.pair z
    (if_eq k kinds.product z
    (if_eq k kinds.powerset y (if_eq k kinds.application (first_of y) (if_eq k kinds.choice y leaf))))))

-- the trees of two lists are equal, one by one
unfoldable pub same_all : List Tree → List Tree → Bool
same_all [] [] = true
same_all [] (u ∷ us) = false
same_all (t ∷ ts) [] = false
same_all (t ∷ ts) (u ∷ us) = elim (same t u) [ true ↦ same_all ts us | false ↦ false ]

-- "a pair of a τ and a υ is Pair(τ,υ)"
unfoldable pub pair_typed : Tree → Bool
pair_typed t = same (third_of t) (pairᵗ (type_of (first_of t)) (type_of (second_of t)))

-- "a product of Set(τ), Set(υ) is Set(Pair(τ,υ))"
unfoldable pub product_typed : Tree → Bool
product_typed t =
    both (eqb (kind_of (type_of (first_of t))) kinds.set_type)
    (both (eqb (kind_of (type_of (second_of t))) kinds.set_type)
    (same (third_of t) (setᵗ (pairᵗ (first_of (type_of (first_of t))) (first_of (type_of (second_of t)))))))

-- "a powerset of Set(τ) is Set(Set(τ))"
unfoldable pub powerset_typed : Tree → Bool
powerset_typed t = both (eqb (kind_of (type_of (first_of t))) kinds.set_type) (same (second_of t) (setᵗ (type_of (first_of t))))

-- "s is of type Set(τ)", the choice's own type being τ (paper 02, U3)
unfoldable pub choice_typed : Tree → Bool
choice_typed t = same (type_of (first_of t)) (setᵗ (second_of t))

-- "= needs equal types"
unfoldable pub equal_typed : Tree → Bool
equal_typed t = same (type_of (first_of t)) (type_of (second_of t))

-- "x ∈ s needs s of type Set(τ) for x of τ"
unfoldable pub member_typed : Tree → Bool
member_typed t = same (type_of (second_of t)) (setᵗ (type_of (first_of t)))

-- "In ∀, each occurrence bound by it bears its type."
unfoldable pub for_all_typed : Tree → Bool
for_all_typed t = bears 0 (first_of t) (second_of t)

-- "A constant's type has no variable."
unfoldable pub constant_typed : Tree → Bool
constant_typed t = types_below 0 (first_of t)

-- a function's types, the result's first
unfoldable pub signature : Reader → ℕ → List Tree
signature rd f = item_trees rd (lower rd f 1)

-- "Signatures use only variables below their parameter count."
unfoldable pub function_typed : Reader → ℕ → Bool
function_typed rd f = every (types_below (rd f 2)) (signature rd f)

-- "an application fits its signature with the type arguments put in": as many type arguments as parameters; own type and the arguments' types are
-- the signature's, one by one, with the type arguments in place of the variables
unfoldable pub application_typed : Reader → ℕ → Bool
application_typed rd i =
    both (eqb (length (item_trees rd (lower rd i 2))) (rd (lower rd i 1) 2 + 1))
    (same_all (get_or (item_trees rd (lower rd i 2)) 0 leaf ∷ map type_of (item_trees rd (lower rd i 3)))
    (map (instance (drop 1 (item_trees rd (lower rd i 2)))) (signature rd (lower rd i 1))))

-- what kind k asks of the types of record i
unfoldable pub typing_of : ℕ → Reader → ℕ → Bool
typing_of k rd i =
    if_eq k kinds.constant (constant_typed (tree rd i))
    (if_eq k kinds.function (function_typed rd i)
    (if_eq k kinds.pair (pair_typed (tree rd i))
    (if_eq k kinds.product (product_typed (tree rd i))
    (if_eq k kinds.powerset (powerset_typed (tree rd i))
    (if_eq k kinds.application (application_typed rd i)
    (if_eq k kinds.for_all (for_all_typed (tree rd i))
    (if_eq k kinds.equal (equal_typed (tree rd i))
    (if_eq k kinds.member (member_typed (tree rd i))
    (if_eq k kinds.choice (choice_typed (tree rd i)) true)))))))))

-- record i is typed as its kind asks
unfoldable pub is_typed : Reader → ℕ → Bool
is_typed rd i = typing_of (rd i 0) rd i
