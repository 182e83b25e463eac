-- The two forms of danger, by the least positions.
use Rattle.std.proofs.Common.{arith, ap, sym, Bool, List, None, Some, true, false, ◌+◌, ◌<◌, ◌∙◌, ◌≡◌, ◌≤◌, ◌&&◌, ℕ, ⊎_elim}
use Rattle.std.specs.Bool.{nat_le, nat_lt}
use Rattle.std.specs.List.{list_any}
use Rattle.std.specs.Option.{option_map}
use Rattle.std.specs.Prelude.{AllPairs, find}
use Rattle.std.proofs.lemmas.Bool.{cases_lt, le-leb, le-ltb, lt-ltb}
use Rattle.std.proofs.lemmas.Bool.Decides.{leb_tells}
use Rattle.node_model.specs.Danger.{first_pair, is_form_one, is_form_two, with_partner}
use Rattle.rw_graph.proofs.Found.{any_none, any_some, find_least, find_none, none_by_find, some_by_find}
use Rattle.rw_graph.specs.Sets.{AreAmong, IsLeastFrom, is_among}
use Rattle.rel_base.proofs.Bits.{and_false}

module _ (list : List ℕ) (rising : AllPairs (λ p q. p < q) list) (has : ℕ → ℕ → Bool) (out into : ℕ → Bool) where
  abbrev one : ℕ → ℕ → Bool
  one = is_form_one (λ pos. pos) has out into

  abbrev two : ℕ → ℕ → Bool
  two = is_form_two (λ pos. pos) has out into

  not_out : (z x : ℕ) → out z ≡ false → one z x ≡ false
  not_out z x fails = ap (λ b. b && (into x && nat_le z x)) fails

  not_into : (z x : ℕ) → into x ≡ false → one z x ≡ false
  not_into z x fails = ap (λ b. out z && (b && nat_le z x)) fails ∙ and_false (out z)

  not_after : (z x : ℕ) → x < z → one z x ≡ false
  not_after z x low = ap (λ b. out z && (into x && b)) (⊎_elim (λ le. absurd (omega (arith, low, le.1))) (λ gt. gt.0) (leb_tells z x)) ∙ ap (λ b. out z && b) (and_false (into x)) ∙ and_false (out z)

  no_pair : ((z x : ℕ) → one z x ≡ false) → first_pair one list ≡ None
  no_pair none = ap (with_partner one list) (find_none (λ z. list_any (one z) list) list (λ z among. any_none (one z) list (λ x among. none z x)))

  pub one_without_z : IsLeastFrom out 0 None → first_pair one list ≡ None
  one_without_z none = no_pair (λ z x. not_out z x (none z (omega arith)))

  pub one_without_x : (z : ℕ) → IsLeastFrom out 0 (Some z) → IsLeastFrom into z None → first_pair one list ≡ None
  one_without_x z least none = no_pair (λ other x. ⊎_elim
      (λ early. not_out other x (least.2 other (omega arith) early))
      (λ late. ⊎_elim (λ low. not_after other x (omega (arith, low, late))) (λ high. not_into other x (none x high)) (cases_lt x z))
      (cases_lt other z))

  pub one_with : AreAmong list out → AreAmong list into → (z x : ℕ) → IsLeastFrom out 0 (Some z) → IsLeastFrom into z (Some x) → first_pair one list ≡ Some (z, x)
  one_with out_among into_among z x least_z least_x =
      let is : one z x ≡ true = ap (λ b. b && (into x && nat_le z x)) least_z.1 ∙ ap (λ b. b && nat_le z x) least_x.1 ∙ le-leb z x least_x.0 in
      ap (with_partner one list) (find_least (λ z. list_any (one z) list) list rising z (out_among z least_z.1) (any_some (one z) list x (into_among x least_x.1) is)
      (λ other early. any_none (one other) list (λ x among. not_out other x (least_z.2 other (omega arith) early))))
      ∙ ap (option_map (λ x. (z, x))) (find_least (one z) list rising x (into_among x least_x.1) is
      (λ other early. ⊎_elim (λ low. not_after z other low) (λ high. not_into z other (least_x.2 other high early)) (cases_lt other z)))

  module _ (y : ℕ) where
    not_edge : (z : ℕ) → has y z ≡ false → two y z ≡ false
    not_edge z fails = ap (λ b. out y && (b && nat_lt z y)) fails ∙ and_false (out y)

    not_before : (z : ℕ) → y ≤ z → two y z ≡ false
    not_before z high = ap (λ b. out y && (has y z && b)) (le-ltb z y high) ∙ ap (λ b. out y && b) (and_false (has y z)) ∙ and_false (out y)

    pub two_without_y : out y ≡ false → find (two y) list ≡ None
    two_without_y fails = find_none (two y) list (λ z among. ap (λ b. b && (has y z && nat_lt z y)) fails)

    pub two_without_z : IsLeastFrom (has y) 0 None → find (two y) list ≡ None
    two_without_z none = find_none (two y) list (λ z among. not_edge z (none z (omega arith)))

    pub two_too_late : (z : ℕ) → IsLeastFrom (has y) 0 (Some z) → y ≤ z → find (two y) list ≡ None
    two_too_late z least late = find_none (two y) list (λ other among. ⊎_elim
        (λ early. not_edge other (least.2 other (omega arith) early)) (λ high. not_before other (omega (arith, high, late))) (cases_lt other z))

    pub two_with : ((z : ℕ) → has y z ≡ true → is_among list z ≡ true) → out y ≡ true → (z : ℕ) → IsLeastFrom (has y) 0 (Some z) → z < y → find (two y) list ≡ Some z
    two_with between is_out z least low =
        find_least (two y) list rising z (between z least.1) (ap (λ b. b && (has y z && nat_lt z y)) is_out ∙ ap (λ b. b && nat_lt z y) least.1 ∙ lt-ltb z y low)
        (λ other early. not_edge other (least.2 other (omega arith) early))

  -- no position below another is the first of a pair of form two
  abbrev pub NoneBelow : ℕ → Type 0
  NoneBelow upto = (y : ℕ) → y < upto → find (two y) list ≡ None

  -- position 0 has no edge to it, since positions count from 1
  pub none_first : out 0 ≡ false → NoneBelow 1
  none_first fails y low = let same : 0 ≡ y = omega (arith, low) in ap (λ p. find (two p) list) (sym same) ∙ two_without_y 0 fails

  pub none_next : (from y : ℕ) → NoneBelow from → IsLeastFrom out from (Some y) → find (two y) list ≡ None → NoneBelow (y + 1)
  none_next from y before least none other low = ⊎_elim
      (λ early. before other early)
      (λ late. ⊎_elim
      (λ between. two_without_y other (least.2 other late between))
      (λ high. let same : y ≡ other = omega (arith, low, high) in ap (λ p. find (two p) list) (sym same) ∙ none)
      (cases_lt other y))
      (cases_lt other from)

  pub two_pair_at : (from y z : ℕ) → NoneBelow from → AreAmong list out → IsLeastFrom out from (Some y) → find (two y) list ≡ Some z → first_pair two list ≡ Some (y, z)
  two_pair_at from y z before out_among least some =
      ap (with_partner two list) (find_least (λ first. list_any (two first) list) list rising y (out_among y least.1) (some_by_find two list (two y) list z some)
      (λ other early. none_by_find two list (two other) list (⊎_elim (λ below. before other below) (λ late. two_without_y other (least.2 other late early)) (cases_lt other from))))
      ∙ ap (option_map (λ second. (y, second))) some

  -- nothing from one on, and none below it
  pub no_two_left : (from : ℕ) → NoneBelow from → IsLeastFrom out from None → first_pair two list ≡ None
  no_two_left from before none = ap (with_partner two list) (find_none (λ first. list_any (two first) list) list (λ y among.
      none_by_find two list (two y) list (⊎_elim (λ below. before y below) (λ late. two_without_y y (none y late)) (cases_lt y from))))
