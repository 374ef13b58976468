-- What is known of the letters of each rule, and that every line of its template passes the test.
use Rattle.std.specs.Prelude.{◌≡◌, refl, true, [], ◌∷◌}
use Rattle.reader.specs.Tests.{both, either, between, if_eq, if_lt}
use Rattle.reader.specs.Kinds.{kinds, termᶜ, formulaᶜ, for_all_typesᶜ, role}
use Rattle.reader.specs.Records.{wanted_class}
use Rattle.reader_laws.specs.Classes.{all_below}
use Rattle.translation_rules.specs.Templates.{lines_of_start, lines32, lines33, lines34, lines35, lines36, lines37, lines38, lines39, lines40}
use Rattle.translation_rules.specs.Templates.{lines41, lines42, lines43, lines44, lines45, lines46}
use Rattle.translation_records.specs.Fits.{Known, word_class, own_class, cell_class, is_none, is_chain, cell_fits, is_written, line_fits, lines_fit}

-- the start: one premise, the root
abbrev pub known_of_start : Known
known_of_start = record { classes = []; outer = 0; inner = 0; premise_count = 1 }

-- 32 and 33: no part
abbrev pub known32 : Known
known32 = record { classes = []; outer = 0; inner = 0; premise_count = 0 }

-- 34: a formula P
abbrev pub known34 : Known
known34 = record { classes = formulaᶜ ∷ []; outer = 0; inner = 0; premise_count = 0 }

-- 35: ¬(t=t)
abbrev pub known35 : Known
known35 = record { classes = formulaᶜ ∷ []; outer = kinds.not; inner = 0; premise_count = 0 }

-- 36: t=u
abbrev pub known36 : Known
known36 = record { classes = formulaᶜ ∷ []; outer = kinds.equal; inner = 0; premise_count = 0 }

-- 37: a formula P, two premises
abbrev pub known37 : Known
known37 = record { classes = formulaᶜ ∷ []; outer = 0; inner = 0; premise_count = 2 }

-- 38: ¬¬P
abbrev pub known38 : Known
known38 = record { classes = formulaᶜ ∷ []; outer = kinds.not; inner = kinds.not; premise_count = 1 }

-- 39: P∧Q
abbrev pub known39 : Known
known39 = record { classes = formulaᶜ ∷ []; outer = kinds.and; inner = 0; premise_count = 1 }

-- 40: ¬(P⇒Q)
abbrev pub known40 : Known
known40 = record { classes = formulaᶜ ∷ []; outer = kinds.not; inner = 0; premise_count = 1 }

-- 41: P⇒Q, two premises
abbrev pub known41 : Known
known41 = record { classes = formulaᶜ ∷ []; outer = kinds.implies; inner = 0; premise_count = 2 }

-- 42: ¬(P∧Q), two premises
abbrev pub known42 : Known
known42 = record { classes = formulaᶜ ∷ []; outer = kinds.not; inner = 0; premise_count = 2 }

-- 43: ¬∀B, a constant, B of it
abbrev pub known43 : Known
known43 = record { classes = formulaᶜ ∷ termᶜ ∷ formulaᶜ ∷ []; outer = kinds.not; inner = 0; premise_count = 1 }

-- 44: ∀B, a term, B of it
abbrev pub known44 : Known
known44 = record { classes = formulaᶜ ∷ termᶜ ∷ formulaᶜ ∷ []; outer = 0; inner = 0; premise_count = 1 }

-- 45: a formula for all types, its instance; the types after these are not copied
abbrev pub known45 : Known
known45 = record { classes = for_all_typesᶜ ∷ formulaᶜ ∷ []; outer = 0; inner = 0; premise_count = 1 }

-- 46: B, t, u, B of t, B of u, two premises
abbrev pub known46 : Known
known46 = record { classes = formulaᶜ ∷ termᶜ ∷ termᶜ ∷ formulaᶜ ∷ formulaᶜ ∷ []; outer = 0; inner = 0; premise_count = 2 }

pub pass_start : lines_fit known_of_start lines_of_start ≡ true
unfolding lines_fit all_below line_fits is_written cell_fits is_chain is_none cell_class own_class word_class wanted_class role both either between if_eq if_lt
pass_start = refl

pub pass_32 : lines_fit known32 lines32 ≡ true
unfolding lines_fit all_below line_fits is_written cell_fits is_chain is_none cell_class own_class word_class wanted_class role both either between if_eq if_lt
pass_32 = refl

pub pass_33 : lines_fit known32 lines33 ≡ true
unfolding lines_fit all_below line_fits is_written cell_fits is_chain is_none cell_class own_class word_class wanted_class role both either between if_eq if_lt
pass_33 = refl

pub pass_34 : lines_fit known34 lines34 ≡ true
unfolding lines_fit all_below line_fits is_written cell_fits is_chain is_none cell_class own_class word_class wanted_class role both either between if_eq if_lt
pass_34 = refl

pub pass_35 : lines_fit known35 lines35 ≡ true
unfolding lines_fit all_below line_fits is_written cell_fits is_chain is_none cell_class own_class word_class wanted_class role both either between if_eq if_lt
pass_35 = refl

pub pass_36 : lines_fit known36 lines36 ≡ true
unfolding lines_fit all_below line_fits is_written cell_fits is_chain is_none cell_class own_class word_class wanted_class role both either between if_eq if_lt
pass_36 = refl

pub pass_37 : lines_fit known37 lines37 ≡ true
unfolding lines_fit all_below line_fits is_written cell_fits is_chain is_none cell_class own_class word_class wanted_class role both either between if_eq if_lt
pass_37 = refl

pub pass_38 : lines_fit known38 lines38 ≡ true
unfolding lines_fit all_below line_fits is_written cell_fits is_chain is_none cell_class own_class word_class wanted_class role both either between if_eq if_lt
pass_38 = refl

pub pass_39 : lines_fit known39 lines39 ≡ true
unfolding lines_fit all_below line_fits is_written cell_fits is_chain is_none cell_class own_class word_class wanted_class role both either between if_eq if_lt
pass_39 = refl

pub pass_40 : lines_fit known40 lines40 ≡ true
unfolding lines_fit all_below line_fits is_written cell_fits is_chain is_none cell_class own_class word_class wanted_class role both either between if_eq if_lt
pass_40 = refl

pub pass_41 : lines_fit known41 lines41 ≡ true
unfolding lines_fit all_below line_fits is_written cell_fits is_chain is_none cell_class own_class word_class wanted_class role both either between if_eq if_lt
pass_41 = refl

pub pass_42 : lines_fit known42 lines42 ≡ true
unfolding lines_fit all_below line_fits is_written cell_fits is_chain is_none cell_class own_class word_class wanted_class role both either between if_eq if_lt
pass_42 = refl

pub pass_43 : lines_fit known43 lines43 ≡ true
unfolding lines_fit all_below line_fits is_written cell_fits is_chain is_none cell_class own_class word_class wanted_class role both either between if_eq if_lt
pass_43 = refl

pub pass_44 : lines_fit known44 lines44 ≡ true
unfolding lines_fit all_below line_fits is_written cell_fits is_chain is_none cell_class own_class word_class wanted_class role both either between if_eq if_lt
pass_44 = refl

pub pass_45 : lines_fit known45 lines45 ≡ true
unfolding lines_fit all_below line_fits is_written cell_fits is_chain is_none cell_class own_class word_class wanted_class role both either between if_eq if_lt
pass_45 = refl

pub pass_46 : lines_fit known46 lines46 ≡ true
unfolding lines_fit all_below line_fits is_written cell_fits is_chain is_none cell_class own_class word_class wanted_class role both either between if_eq if_lt
pass_46 = refl
