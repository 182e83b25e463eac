-- The history of a chain: its writes find what they tell, and a height cuts it in two.
use Rattle.std.proofs.Common.{Bool, List, None, Some, [], ap, arith, cond, false, inl, inr, map, refl, subst, sym, true, ⊎_elim, ◌&&◌, ◌++◌, ◌<◌, ◌∙◌, ◌≡◌, ◌≤◌, ◌∷◌, ℕ}
use Rattle.node_model.specs.Decide.{run_at}
use Rattle.node_model.specs.History.{SealedBlock, history_of, snapshot}
use Rattle.proc_syntax.specs.Declaring.{tables_of}
use Rattle.proc_syntax.specs.declared.call.Tx.{Tx}
use Rattle.proc_syntax.specs.declared.tree.App.{App}
use Rattle.rel_base.specs.Among.{rows_in}
use Rattle.rel_base.specs.Late.{late}
use Rattle.rel_base.specs.Tables.{HistoryFits, Stamped, Tables, no_tables, set_stamped, writes_between, writes_up_to}
use Rattle.rel_base.specs.declared.schema.TableDef.{TableDef}
use Rattle.rel_base.proofs.Bits.{both_true}
use Rattle.rw_graph.proofs.Lists.{In, Pairs, each_at}
use Rattle.serial_order.proofs.Each.{all_from}
use Rattle.serial_laws.proofs.Causes.{none_hit}
use Rattle.serial_laws.proofs.Fitting.{AreMade, filter_all, filter_none}
use Rattle.serial_laws.proofs.Replaying.{frame}
use Rattle.serial_laws.proofs.Stories.{IsStory, rows_stay, set_append, story_back}
use Rattle.serial_laws.specs.Replay.{run_on}
use Rattle.std.proofs.lemmas.Bool.{cases_lt, le-leb, le-ltb, lt-leb, lt-ltb}
use Rattle.std.specs.List.{filter}
use Rattle.std.specs.Prelude.{nat_le, nat_lt}

-- ---- a height cuts writes that stand by block

abbrev pub ByBlock : Stamped → Stamped → Type 0
ByBlock earlier later = earlier.0 ≤ later.0

module _ (height high : ℕ) where
  abbrev before : Stamped → Bool
  before s = nat_le s.0 height

  abbrev since : Stamped → Bool
  since s = nat_lt height s.0 && nat_le s.0 high

  left_false : (a b : Bool) → a ≡ false → (a && b) ≡ false
  left_false true b p = cc
  left_false false b p = refl

  parts : (s : Stamped) (rest front back : List Stamped) → rest ≡ front ++ back → before s ≡ true → since s ≡ false → s ∷ rest ≡ cond (before s) (s ∷ front) front ++ cond (since s) (s ∷ back) back
  parts s rest front back is p q =
      ap (λ l. s ∷ l) is ∙ sym (ap (λ b. cond b (s ∷ front) front ++ cond (since s) (s ∷ back) back) p ∙ ap (λ b. (s ∷ front) ++ cond b (s ∷ back) back) q)

  pub cut : (history : List Stamped) → Pairs ByBlock history → ((s : Stamped) → In s history → s.0 ≤ high) → history ≡ writes_up_to height history ++ writes_between height high history
  cut [] sorted below = refl
  cut (s ∷ rest) sorted below = ⊎_elim
      (λ late. sym (ap (λ l. l ++ filter since (s ∷ rest)) (filter_none before (s ∷ rest) (λ x h. lt-leb _ _ (after x h late)))
      ∙ filter_all since (s ∷ rest) (λ x h. both_true _ _ (lt-ltb _ _ (after x h late)) (le-leb _ _ (below x h)))))
      (λ early. parts s rest (filter before rest) (filter since rest) (cut rest sorted.1 (λ x h. below x (inr h))) (le-leb _ _ early) (left_false (nat_lt height s.0) _ (le-ltb _ _ early)))
      (cases_lt height s.0)
    where
      after : (x : Stamped) → In x (s ∷ rest) → height < s.0 → height < x.0
      after x (inl same) late = subst (λ (y : Stamped). height < y.0) same late
      after x (inr k) late = let up = each_at (ByBlock s) rest sorted.0 x k in omega (arith, late, up)

-- ---- chains

-- the writes of a chain fit, find their rows before one after another, and stand by block, the last of a number
pub record IsPast (tables : List TableDef) (number : ℕ) (chain : List SealedBlock) : Type 0 where
  pub story : IsStory (history_of chain) no_tables
  pub fits : HistoryFits tables (history_of chain)
  pub sorted : Pairs ByBlock (history_of chain)
  pub upto : (s : Stamped) → In s (history_of chain) → s.0 ≤ number

module _ (tables : List TableDef) (number : ℕ) (chain : List SealedBlock) (past : IsPast tables number chain) where
  -- the tables after the last block are those of the whole history
  pub whole : (height : ℕ) → number ≤ height → snapshot height chain ≡ set_stamped no_tables (history_of chain)
  whole height le = ap (set_stamped no_tables) (filter_all (λ s. nat_le s.0 height) (history_of chain) (λ s h. let up = past.upto s h in le-leb _ _ (omega (arith, le, up))))

  pub made : (next : ℕ) → number ≤ next → AreMade tables next (snapshot number chain)
  made next le = record {
    list = history_of chain;
    is = sym (whole number (omega arith));
    fits = past.fits;
    upto = all_from (λ s. s.0 ≤ next) (history_of chain) (λ s h. let up = past.upto s h in omega (arith, le, up));
  }

  -- the tables of a height become those of the last block by the writes since, each of which finds its row before
  pub reached : (height : ℕ) → set_stamped (snapshot height chain) (writes_between height number (history_of chain)) ≡ snapshot number chain
  reached height =
      sym (set_append (writes_up_to height (history_of chain)) (writes_between height number (history_of chain)) no_tables)
      ∙ ap (set_stamped no_tables) (sym (cut height number (history_of chain) past.sorted past.upto)) ∙ sym (whole number (omega arith))

  pub story_since : (height : ℕ) → IsStory (writes_between height number (history_of chain)) (snapshot height chain)
  story_since height =
      story_back (writes_up_to height (history_of chain)) (writes_between height number (history_of chain)) no_tables
      (subst (λ l. IsStory l no_tables) (cut height number (history_of chain) past.sorted past.upto) past.story)

-- a transaction without a late read makes the same run on the tables before its block as on those of its height
pub run_stays : (app : App) (number : ℕ) (chain : List SealedBlock) → IsPast (tables_of app) number chain → (tx : Tx)
    → late (tables_of app) (map (λ made. made.read) (run_at app chain tx).reads) (writes_between tx.height number (history_of chain)) ≡ None
    → run_on app chain (snapshot number chain) (Some tx) ≡ run_at app chain tx
run_stays app number chain past tx early =
    let S : Tables = snapshot tx.height chain in
    let news : List Stamped = writes_between tx.height number (history_of chain) in
    subst (λ T. run_on app chain T (Some tx) ≡ run_at app chain tx) (reached (tables_of app) number chain past tx.height)
    (frame app chain (Some tx) S (set_stamped S news) (all_from (λ made. rows_in (tables_of app) made.read (set_stamped S news) ≡ rows_in (tables_of app) made.read S) (run_at app chain tx).reads (λ made h.
    rows_stay (tables_of app) made.read news S (story_since (tables_of app) number chain past tx.height) (none_hit (tables_of app) (run_at app chain tx).reads news early made h))))
