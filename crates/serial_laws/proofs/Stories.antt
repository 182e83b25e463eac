-- Writes that find what they tell, one after another, and rows that none of them hits.
use Rattle.std.proofs.Common.{List, None, Option, Some, [], ap, cond, false, inl, inr, refl, subst, sym, ◌++◌, ◌∙◌, ◌≡◌, ◌∷◌, ℕ}
use Rattle.rel_base.proofs.Bits.{is_Equal}
use Rattle.rel_base.proofs.Commutes.{get-set_entry, set_entry-commutes}
use Rattle.rel_base.proofs.Frames.{rows-set_write}
use Rattle.rel_base.specs.Access.{hits_write, read_table}
use Rattle.rel_base.specs.Among.{rows_by, rows_in}
use Rattle.rel_base.specs.Late.{hits_in, where_declared}
use Rattle.rel_base.specs.Tables.{Finds, Stamped, Tables, ref_cmp, ref_cmp-exact, ref_cmp-total, seen_at, set_stamped, set_write, write_ref}
use Rattle.rel_base.specs.declared.access.Read.{Read}
use Rattle.rel_base.specs.declared.access.Write.{Write}
use Rattle.rel_base.specs.declared.schema.TableDef.{TableDef}
use Rattle.rel_base.specs.declared.value.Value.{Value}
use Rattle.rw_graph.proofs.Lists.{In, Pairs, each_at}
use Rattle.serial_order.proofs.Searches.{by_bool}
use Rattle.serial_laws.specs.Replay.{stamps}
use Rattle.std.proofs.lemmas.Cmp.{tied_itself}
use Rattle.std.specs.FinMap as finite
use Rattle.std.specs.Ordering.{eq_by_cmp, is_eq}
use Rattle.std.specs.Prelude.{slice_get, ◌≢◌}
use Rattle.std.proofs.Common.{true≢false}

-- each write finds its row before when it is put
abbrev pub IsStory : List Stamped → Tables → Type 0
IsStory [] S = Unit {0}
IsStory (stamped ∷ rest) S = Finds (finite.get S (write_ref stamped.1.write)) stamped.1.write × IsStory rest (set_write stamped.0 stamped.1.pos S stamped.1.write)

pub set_append : (xs ys : List Stamped) (S : Tables) → set_stamped S (xs ++ ys) ≡ set_stamped (set_stamped S xs) ys
set_append [] ys S = refl
set_append (x ∷ xs) ys S = set_append xs ys (set_write x.0 x.1.pos S x.1.write)

pub story_append : (xs ys : List Stamped) (S : Tables) → IsStory xs S → IsStory ys (set_stamped S xs) → IsStory (xs ++ ys) S
story_append [] ys S h k = k
story_append (x ∷ xs) ys S h k = (h.0, story_append xs ys (set_write x.0 x.1.pos S x.1.write) h.1 k)

pub story_back : (xs ys : List Stamped) (S : Tables) → IsStory (xs ++ ys) S → IsStory ys (set_stamped S xs)
story_back [] ys S h = h
story_back (x ∷ xs) ys S h = story_back xs ys (set_write x.0 x.1.pos S x.1.write) h.1

-- ---- tables and keys

-- no write of the one is of a table and key of the other
abbrev pub KeysApart : List Write → List Write → Type 0
KeysApart vs us = (v : Write) → In v vs → (u : Write) → In u us → write_ref v ≢ write_ref u

pub differs : (a b : ℕ × List Value) → eq_by_cmp ref_cmp a b ≡ false → a ≢ b
differs a b untied same = true≢false (sym (ap is_eq (tied_itself ref_cmp-total b)) ∙ subst (λ x. eq_by_cmp ref_cmp x b ≡ false) same untied)

get_other : (block pos : ℕ) (S : Tables) (write : Write) (key : ℕ × List Value) → key ≢ write_ref write → finite.get (set_write block pos S write) key ≡ finite.get S key
get_other block pos S write key differ =
    get-set_entry S (write_ref write) (seen_at block pos write.after) key
    ∙ by_bool (eq_by_cmp ref_cmp key (write_ref write)) (λ tied. absurd (differ (ref_cmp-exact key (write_ref write) (is_Equal _ tied))))
    (λ untied. ap (λ b. cond b (seen_at block pos write.after) (finite.get S key)) untied)

pub find_other : (block pos : ℕ) (S : Tables) (write other : Write) → write_ref other ≢ write_ref write → Finds (finite.get S (write_ref other)) other → Finds (finite.get (set_write block pos S write) (write_ref other)) other
find_other block pos S write other differ finds = subst (λ old. Finds old other) (sym (get_other block pos S write (write_ref other) differ)) finds

module _ (block pos : ℕ) where
  -- what holds of each write stamped, holds of the stamps
  pub each_stamp : (P : Stamped → Type 0) (vs : List Write) → ((v : Write) → In v vs → P (block, record { pos = pos; write = v })) → (s : Stamped) → In s (stamps block pos vs) → P s
  each_stamp P [] f s h = absurd h
  each_stamp P (v ∷ vs) f s (inl e) = subst P e (f v (inl refl))
  each_stamp P (v ∷ vs) f s (inr h) = each_stamp P vs (λ u k. f u (inr k)) s h

  pub find_kept : (vs : List Write) (S : Tables) (other : Write) → ((v : Write) → In v vs → write_ref other ≢ write_ref v) → Finds (finite.get S (write_ref other)) other
      → Finds (finite.get (set_stamped S (stamps block pos vs)) (write_ref other)) other
  find_kept [] S other differ finds = finds
  find_kept (v ∷ vs) S other differ finds = find_kept vs (set_write block pos S v) other (λ u h. differ u (inr h)) (find_other block pos S v other (differ v (inl refl)) finds)

  -- writes of different keys that each find their row before, do so one after another
  pub own_story : (vs : List Write) (S : Tables) → ((v : Write) → In v vs → Finds (finite.get S (write_ref v)) v) → Pairs (λ v u. write_ref v ≢ write_ref u) vs → IsStory (stamps block pos vs) S
  own_story [] S found once = tt
  own_story (v ∷ vs) S found once =
      (found v (inl refl), own_story vs (set_write block pos S v) (λ u h. find_other block pos S v u (λ e. each_at (λ u. write_ref v ≢ write_ref u) vs once.0 u h (sym e)) (found u (inr h))) once.1)

-- writes of different keys may change places
module _ (block p q : ℕ) where
  put_past : (v : Write) (us : List Write) (S : Tables) → ((u : Write) → In u us → write_ref v ≢ write_ref u)
      → set_stamped (set_write block p S v) (stamps block q us) ≡ set_write block p (set_stamped S (stamps block q us)) v
  put_past v [] S differ = refl
  put_past v (u ∷ us) S differ =
      ap (λ T. set_stamped T (stamps block q us)) (set_entry-commutes S (write_ref v) (write_ref u) (seen_at block p v.after) (seen_at block q u.after) (differ u (inl refl)))
      ∙ put_past v us (set_write block q S u) (λ x h. differ x (inr h))

  pub puts_commute : (vs us : List Write) (S : Tables) → KeysApart vs us
      → set_stamped (set_stamped S (stamps block p vs)) (stamps block q us) ≡ set_stamped (set_stamped S (stamps block q us)) (stamps block p vs)
  puts_commute [] us S differ = refl
  puts_commute (v ∷ vs) us S differ =
      puts_commute vs us (set_write block p S v) (λ x h. differ x (inr h)) ∙ ap (λ T. set_stamped T (stamps block p vs)) (put_past v us S (differ v (inl refl)))

-- ---- rows

module _ (tables : List TableDef) where
  kept_by : (found : Option TableDef) (read : Read) (block pos : ℕ) (S : Tables) (write : Write) → where_declared found (λ def. hits_write def read write) ≡ false
      → Finds (finite.get S (write_ref write)) write → rows_by found read (set_write block pos S write) ≡ rows_by found read S
  kept_by None read block pos S write miss finds = refl
  kept_by (Some def) read block pos S write miss finds = rows-set_write def read block pos S write miss finds

  -- writes that a read does not hit leave its rows
  pub rows_stay : (read : Read) (list : List Stamped) (S : Tables) → IsStory list S → ((s : Stamped) → In s list → hits_in tables read s.1.write ≡ false) → rows_in tables read (set_stamped S list) ≡ rows_in tables read S
  rows_stay read [] S story miss = refl
  rows_stay read (s ∷ rest) S story miss =
      rows_stay read rest (set_write s.0 s.1.pos S s.1.write) story.1 (λ u h. miss u (inr h)) ∙ kept_by (slice_get tables (read_table read)) read s.0 s.1.pos S s.1.write (miss s (inl refl)) story.0
