-- The entries of tree maps, and the finite maps that they make.
use Rattle.std.proofs.Common.{◌≡◌, ℕ, List, [], ◌∷◌, Bool, Option, Some, None, refl, cond, not, ap, ◌∙◌, sym, subst, T, true, false}
use Rattle.std.specs.BTreeMap.{is_at, insert_entry}
use Rattle.std.specs.Map.{lookup, keys_of, remove_entry}
use Rattle.std.specs.Cmp.{IsTotalOrder, Equal-is, eq_by_cmp_equiv}
use Rattle.std.specs.declared.cmp.Ordering.{Ordering}
use Rattle.std.specs.declared.cmp.Ordering.TheVariants.{Less, Equal, Greater}
use Rattle.std.specs.Ordering.{is_lt, is_eq, eq_by_cmp, match_ordering}
use Rattle.std.specs.List.{AllByRecursion, filter}
use Rattle.std.specs.List.Sorted.{IsStrictlySortedBy}
use Rattle.std.specs.FinMap.{from_entries, entries, entries_sorted, get, get-entries, get-from_entries, insert, get-insert, same_map}
use Rattle.std.specs.FinMap.Entries.{find, is_sorted, below_all, same_entries, put, where_key, by_order}
use Rattle.rel_base.specs.declared.value.Value.{Value}
use Rattle.rel_base.specs.Tables.{ref_cmp, ref_cmp-total, ref_cmp-exact}
use Rattle.rel_base.specs.Value.{key_cmp, key_cmp-total, key_cmp-exact}
use Rattle.rel_base.proofs.Bits.{both, first, second, is_Less, is_Equal}
use Rattle.rel_base.proofs.Frames.{not_there}

module _ {K X : Type 0} (R : K → K → Ordering) where
  below_from_keys : (k : K) (es : List (K × X)) → AllByRecursion (λ q. R k q ≡ Less) (keys_of es) → T (below_all R k es)
  below_from_keys k [] h = tt
  below_from_keys k (e ∷ es) h = both _ _ (subst (λ o. T (is_lt o)) (sym h.0) tt) (below_from_keys k es h.1)

  -- keys that rise are those of entries in order
  pub sorted_from_keys : (es : List (K × X)) → IsStrictlySortedBy R (keys_of es) → T (is_sorted R es)
  unfolding IsStrictlySortedBy
  sorted_from_keys [] h = tt
  sorted_from_keys (e ∷ es) h = both _ _ (below_from_keys e.0 es h.0) (sorted_from_keys es h.1)

  -- the two ways of putting an entry are one
  pub insert_is_put : (k : K) (v : X) (es : List (K × X)) → insert_entry R es k v ≡ put R k v es
  insert_is_put k v [] = refl
  insert_is_put k v (e ∷ es) =
      elim (R k e.0) as (λ o. match_ordering o ((k, v) ∷ e ∷ es) ((e.0, v) ∷ es) (e ∷ insert_entry R es k v) ≡ by_order o ((k, v) ∷ e ∷ es) ((e.0, v) ∷ es) (e ∷ put R k v es))
      [ Less ↦ refl | Equal ↦ refl | Greater ↦ ap (λ fs. e ∷ fs) (insert_is_put k v es) ]

  -- a key below all others is not found
  pub not_found : (k : K) (es : List (K × X)) → T (below_all R k es) → find R k es ≡ None
  not_found k [] h = refl
  not_found k (e ∷ es) h = ap (λ o. cond (is_eq o) (Some e.1) (find R k es)) (is_Less _ (first _ _ h)) ∙ not_found k es (second (is_lt (R k e.0)) _ h)

  -- the two ways of taking an entry out are one
  pub remove_is_where : ((a b : K) → R a b ≡ Equal → a ≡ b) → (k : K) (es : List (K × X)) → T (is_sorted R es) → remove_entry (is_at (R k)) es ≡ where_key R (λ x. not (eq_by_cmp R k x)) es
  remove_is_where exact k [] up = refl
  remove_is_where exact k (e ∷ es) up =
      elim (eq_by_cmp R k e.0)
      as (λ b. eq_by_cmp R k e.0 ≡ b → cond b es (e ∷ remove_entry (is_at (R k)) es) ≡ cond (not b) (e ∷ where_key R (λ x. not (eq_by_cmp R k x)) es) (where_key R (λ x. not (eq_by_cmp R k x)) es)) [
        | true ↦ λ same.
            let at_entry : k ≡ e.0 = exact k e.0 ((Equal-is (R k e.0)).0 same) in
            sym (not_there R k es (subst (λ x. T (below_all R x es)) (sym at_entry) (first _ _ up)))
        | false ↦ λ differs. ap (λ fs. e ∷ fs) (remove_is_where exact k es (second (below_all R e.0 es) _ up))
      ] refl

  -- and so are the two ways of looking one up
  pub find_is_lookup : (q : K) (es : List (K × X)) → find R q es ≡ lookup (is_at (R q)) es
  find_is_lookup q [] = refl
  find_is_lookup q (e ∷ es) = ap (cond (is_at (R q) e.0) (Some e.1)) (find_is_lookup q es)

-- ---- entries that pass a test

module _ {K X : Type 0} (R : K → K → Ordering) (exact : (a b : K) → R a b ≡ Equal → a ≡ b) where
  -- a value that passes a test with its key
  abbrev pub kept_if : (K × X → Bool) → K → Option X → Option X
  kept_if p q None = None
  kept_if p q (Some x) = cond (p (q, x)) (Some x) None

  -- what is found among the entries that pass
  pub find-filter : (p : K × X → Bool) (q : K) (es : List (K × X)) → T (is_sorted R es) → find R q (filter p es) ≡ kept_if p q (find R q es)
  find-filter p q [] sorted = refl
  find-filter p q (e ∷ es) sorted =
      elim (eq_by_cmp R q e.0) as (λ t. eq_by_cmp R q e.0 ≡ t → find R q (cond (p e) (e ∷ filter p es) (filter p es)) ≡ kept_if p q (cond t (Some e.1) (find R q es))) [
        | true ↦ λ tied.
            let same : q ≡ e.0 = exact q e.0 (is_Equal (R q e.0) tied) in
            let below : T (below_all R q es) = subst (λ k. T (below_all R k es)) (sym same) (first _ _ sorted) in
            let gone : find R q (filter p es) ≡ None = find-filter p q es (second _ _ sorted) ∙ ap (kept_if p q) (not_found R q es below) in
            elim (p e) as (λ b. p e ≡ b → find R q (cond b (e ∷ filter p es) (filter p es)) ≡ cond (p (q, e.1)) (Some e.1) None) [
              | true ↦ λ passes. ap (λ t. cond t (Some e.1) (find R q (filter p es))) tied ∙ sym (ap (λ b. cond b (Some e.1) None) (ap (λ k. p (k, e.1)) same ∙ passes))
              | false ↦ λ fails. gone ∙ sym (ap (λ b. cond b (Some e.1) None) (ap (λ k. p (k, e.1)) same ∙ fails))
            ] refl
        | false ↦ λ apart.
            let rest = find-filter p q es (second _ _ sorted) in
            elim (p e) as (λ b. find R q (cond b (e ∷ filter p es) (filter p es)) ≡ kept_if p q (find R q es)) [
              | true ↦ ap (λ t. cond t (Some e.1) (find R q (filter p es))) apart ∙ rest
              | false ↦ rest
            ]
      ] refl

-- ---- as a finite map

module _ {K X : Type 0} (R : K → K → Ordering) (total : IsTotalOrder R) (exact : (a b : K) → R a b ≡ Equal → a ≡ b) where
  -- entries in order are those of the map that they make
  pub entries_of_sorted : (es : List (K × X)) → T (is_sorted R es) → entries (from_entries {R = R} es) ≡ es
  entries_of_sorted es up =
      same_entries R total exact (entries (from_entries es)) es (entries_sorted (from_entries es)) up (λ q. sym (get-entries (from_entries es) q) ∙ get-from_entries total es q)

  -- what the map has at a key
  pub get_is_lookup : (es : List (K × X)) (q : K) → get (from_entries {R = R} es) q ≡ lookup (is_at (R q)) es
  get_is_lookup es q = get-from_entries total es q ∙ find_is_lookup R q es

  -- entries that differ at one key make maps that differ there
  pub one_set : (es fs : List (K × X)) (k : K) (v : X) → ((q : K) → lookup (is_at (R q)) fs ≡ cond (is_at (R k) q) (Some v) (lookup (is_at (R q)) es)) → from_entries {R = R} fs ≡ insert (from_entries es) k v
  one_set es fs k v sets = same_map total exact _ _ (λ q.
      get_is_lookup fs q ∙ sets q ∙ ap (λ b. cond b (Some v) (lookup (is_at (R q)) es)) ((eq_by_cmp_equiv total).symm k q)
      ∙ sym (get-insert total (from_entries es) k v q ∙ ap (cond (is_at (R q) k) (Some v)) (get_is_lookup es q)))

-- ---- by tables and keys

-- entries whose keys rise are those of the map that they make
pub entries-from_rising : {X : Type 0} (es : List ((ℕ × List Value) × X)) → IsStrictlySortedBy ref_cmp (keys_of es) → entries (from_entries {R = ref_cmp} es) ≡ es
entries-from_rising es rise = entries_of_sorted ref_cmp ref_cmp-total ref_cmp-exact es (sorted_from_keys ref_cmp es rise)

pub ref_put : {X : Type 0} (ref : ℕ × List Value) (v : X) (es : List ((ℕ × List Value) × X)) → insert_entry ref_cmp es ref v ≡ put ref_cmp ref v es
ref_put ref v es = insert_is_put ref_cmp ref v es

pub ref_removed : {X : Type 0} (ref : ℕ × List Value) (es : List ((ℕ × List Value) × X)) → IsStrictlySortedBy ref_cmp (keys_of es) → remove_entry (is_at (ref_cmp ref)) es ≡ where_key ref_cmp (λ x. not (eq_by_cmp ref_cmp ref x)) es
ref_removed ref es up = remove_is_where ref_cmp ref_cmp-exact ref es (sorted_from_keys ref_cmp es up)

-- ---- by keys

pub entries_by_key : {X : Type 0} (es : List (List Value × X)) → IsStrictlySortedBy key_cmp (keys_of es) → entries (from_entries {R = key_cmp} es) ≡ es
entries_by_key es rise = entries_of_sorted key_cmp key_cmp-total key_cmp-exact es (sorted_from_keys key_cmp es rise)

pub key_put : (k : List Value) (v : List Value) (es : List (List Value × List Value)) → insert_entry key_cmp es k v ≡ put key_cmp k v es
key_put k v es = insert_is_put key_cmp k v es

pub key_removed : (k : List Value) (es : List (List Value × List Value)) → IsStrictlySortedBy key_cmp (keys_of es) → remove_entry (is_at (key_cmp k)) es ≡ where_key key_cmp (λ x. not (eq_by_cmp key_cmp k x)) es
key_removed k es up = remove_is_where key_cmp key_cmp-exact k es (sorted_from_keys key_cmp es up)
