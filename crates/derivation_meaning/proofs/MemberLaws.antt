-- Elements of lists of none and of one.
use Rattle.std.specs.Prelude.{◌≡◌, [], ◌∷◌}
use Rattle.reader.specs.Notions.{◌∈◌, here, there}

-- the empty list has no element
pub none_in : {A C : Type 0} {x : A} → x ∈ [] → C
none_in m = elim m [ ]

-- the only element
pub only_in : {A : Type 0} {x y : A} → x ∈ (y ∷ []) → x ≡ y
only_in (here e) = e
only_in (there m) = none_in m
