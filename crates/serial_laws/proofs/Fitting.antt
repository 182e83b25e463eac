-- Tables that fitting writes made fit.
use Rattle.std.proofs.Common.{All, IfSome, List, None, Option, Some, [], ap, arith, false, inl, inr, refl, subst, true, ◌++◌, ◌∙◌, ◌≡◌, ◌≤◌, ◌∷◌, ℕ}
use Rattle.rel_base.proofs.KeyOrder.{All-tables_at}
use Rattle.rel_base.specs.Access.{PartFits, WriteFits}
use Rattle.rel_base.specs.Among.{StandsIn, TablesFit, WriteFitsIn}
use Rattle.rel_base.specs.Schema.{RowFits, key_of_row}
use Rattle.rel_base.specs.Tables.{HistoryFits, Stamped, Tables, no_tables, seen_at, set_stamped, tables_at, write_ref}
use Rattle.rel_base.specs.declared.access.Write.{Write}
use Rattle.rel_base.specs.declared.schema.TableDef.{TableDef}
use Rattle.rel_base.specs.declared.value.Value.{Value}
use Rattle.rel_base.proofs.Lists.{all_of}
use Rattle.rw_graph.proofs.Lists.{In}
use Rattle.serial_order.proofs.Each.{all_at}
use Rattle.serial_laws.proofs.Stories.{set_append}
use Rattle.serial_laws.specs.Replay.{stamps}
use Rattle.std.proofs.lemmas.Bool.{le-leb}
use Rattle.std.proofs.lemmas.List.Elements.{All-append, All-map, All-weaker}
use Rattle.std.specs.List.{filter}
use Rattle.std.specs.Prelude.{Bool, IsSomeAnd, cond, nat_le, slice_get}

pub filter_all : {X : Type 0} (p : X → Bool) (xs : List X) → ((x : X) → In x xs → p x ≡ true) → filter p xs ≡ xs
filter_all p [] f = refl
filter_all p (x ∷ xs) f = ap (λ b. cond b (x ∷ filter p xs) (filter p xs)) (f x (inl refl)) ∙ ap (λ l. x ∷ l) (filter_all p xs (λ y h. f y (inr h)))

pub filter_none : {X : Type 0} (p : X → Bool) (xs : List X) → ((x : X) → In x xs → p x ≡ false) → filter p xs ≡ []
filter_none p [] f = refl
filter_none p (x ∷ xs) f = ap (λ b. cond b (x ∷ filter p xs) (filter p xs)) (f x (inl refl)) ∙ filter_none p xs (λ y h. f y (inr h))

after_stands : (block pos : ℕ) (found : Option TableDef) (key : List Value) (after : Option (List Value)) → IsSomeAnd found (λ def. PartFits def key after)
    → IfSome (seen_at block pos after) (λ seen. IsSomeAnd found (λ def. RowFits def seen.row × (key_of_row def seen.row ≡ key)))
after_stands block pos found key None fits = tt
after_stands block pos None key (Some row) fits = fits
after_stands block pos (Some def) key (Some row) fits = fits

part_fits : (found : Option TableDef) (write : Write) → IsSomeAnd found (λ def. WriteFits def write) → IsSomeAnd found (λ def. PartFits def write.key write.after)
part_fits None write fits = fits
part_fits (Some def) write fits = fits.after

module _ (tables : List TableDef) where
  abbrev pub FitsAt : Stamped → Type 0
  FitsAt stamped = WriteFitsIn tables stamped.1.write

  pub tables_fit : (height : ℕ) (history : List Stamped) → HistoryFits tables history → TablesFit tables (tables_at height history)
  tables_fit height history fits =
      All-tables_at (λ entry. StandsIn tables entry.0 entry.1.row) height history
      (All-weaker FitsAt (λ stamped. IfSome (seen_at stamped.0 stamped.1.pos stamped.1.write.after) (λ seen. StandsIn tables (write_ref stamped.1.write) seen.row))
      (λ stamped fit. after_stands stamped.0 stamped.1.pos (slice_get tables stamped.1.write.table) stamped.1.write.key stamped.1.write.after (part_fits (slice_get tables stamped.1.write.table) stamped.1.write fit)) history fits)

  -- tables that fitting writes of blocks up to a number made
  pub record AreMade (number : ℕ) (S : Tables) : Type 0 where
    pub list : List Stamped
    pub is : set_stamped no_tables list ≡ S
    pub fits : HistoryFits tables list
    pub upto : All (λ stamped. stamped.0 ≤ number) list

  pub made_fit : (number : ℕ) (S : Tables) → AreMade number S → TablesFit tables S
  made_fit number S made =
      subst (TablesFit tables) (ap (set_stamped no_tables) (filter_all (λ stamped. nat_le stamped.0 number) made.list (λ s h. le-leb _ _ (all_at (λ stamped. stamped.0 ≤ number) made.list made.upto s h))) ∙ made.is)
      (tables_fit number made.list made.fits)

  abbrev UpTo : ℕ → Stamped → Type 0
  UpTo number stamped = stamped.0 ≤ number

  pub fits_stamps : (number pos : ℕ) (vs : List Write) → All (WriteFitsIn tables) vs → HistoryFits tables (stamps number pos vs)
  fits_stamps number pos vs fits = All-map FitsAt (λ write. (number, record { pos = pos; write = write })) vs fits

  -- so are the tables after fitting writes of the block of that number
  pub made_more : (number pos : ℕ) (vs : List Write) (S : Tables) → AreMade number S → All (WriteFitsIn tables) vs → AreMade number (set_stamped S (stamps number pos vs))
  made_more number pos vs S made fits = record {
    list = made.list ++ stamps number pos vs;
    is = set_append made.list (stamps number pos vs) no_tables ∙ ap (λ T. set_stamped T (stamps number pos vs)) made.is;
    fits = All-append FitsAt made.list (stamps number pos vs) made.fits (fits_stamps number pos vs fits);
    upto = All-append (UpTo number) made.list (stamps number pos vs) made.upto
        (All-map (UpTo number) (λ write. (number, record { pos = pos; write = write })) vs (all_of (λ (write : Write). UpTo number (number, record { pos = pos; write = write })) (λ write. omega arith) vs));
  }
