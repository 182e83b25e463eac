-- Where the ways to put readers together stop.
use Rattle.std.proofs.Common.{◌≡◌, ℕ, zero, suc, ◌≤◌, List, [], ◌∷◌, ◌++◌, length, Bool, true, false, cond, Option, Some, None, Ok, Err, refl, sym, ap, subst, ◌∙◌, arith}
use Rattle.proc_syntax.specs.declared.tree.Op.{Op}
use Rattle.proc_syntax.specs.declared.tree.Expr.{Expr}
use Rattle.proc_syntax.specs.declared.tree.Expr.TheVariants as expr
use Rattle.proc_parse.specs.declared.token.Token.{Token}
use Rattle.proc_parse.specs.declared.token.Lexeme.{Lexeme}
use Rattle.proc_parse.specs.declared.token.Sign.TheVariants as sign
use Rattle.proc_parse.specs.Words.{is_sign}
use Rattle.proc_parse.specs.Reading.{Read, Reader, on_read, ◌>>=◌, done, if_past, begins, behind, before, by_first, expect, one, if_found, IsShorter, Shortens}
use Rattle.proc_parse.specs.Lists.{list_from, list_of, many_from, many_of}
use Rattle.proc_parse.specs.Shorter.{IsWithin, keeps_many_from}
use Rattle.proc_parse.specs.Expressions.{op_before, if_op, with_op, without_op, chain_from, chain_of}
use Rattle.proc_parse.proofs.Lists.{list_more, list_step, many_more, many_step}
use Rattle.proc_parse.proofs.Viable.{Accepts, MayContinue, Stopped, Case, Viable, Phrase, Whole, Links, Behind, any, either, first_of, viable_refuse, whole_done, phrase_done, whole_maybe, case_then, phrase_then, takes_some}

-- ---- a reader that is another one, for the tokens that begin so

module _ {A : Type 0} (q q' : Reader A) (stop : Lexeme → Bool) (At : List Token → Type 0) (at_front : (h : Token) (t u : List Token) → At (h ∷ t) → At (h ∷ u)) (same : (zs : List Token) → At zs → q zs ≡ q' zs) where
  accepts_via : (front : List Token) (x : A) (s : Token) → ((ys : List Token) → At (front ++ (s ∷ ys))) → Accepts q' front x s → Accepts q front x s
  accepts_via front x s here a = record { reads = λ ys. same (front ++ (s ∷ ys)) (here ys) ∙ a.reads ys }

  at_more : (ts rest front : List Token) (s : Token) → ts ≡ front ++ rest → At ts → (front ≡ [] → (ys : List Token) → At (s ∷ ys)) → (ys : List Token) → At (front ++ (s ∷ ys))
  at_more ts rest [] s e here k ys = k refl ys
  at_more ts rest (h ∷ t) s e here k ys = at_front h (t ++ rest) (t ++ (s ∷ ys)) (subst At e here)

  stopped_via : (ts rest front : List Token) → ts ≡ front ++ rest → At ts → MayContinue q' stop front → Stopped q stop ts rest
  stopped_via ts rest [] e here v = record { front = []; split = e; goes = tt }
  stopped_via ts rest (h ∷ t) e here v = record {
    front = h ∷ t;
    split = e;
    goes = record {
      more = v.more;
      tree = v.tree;
      reads = λ s k. accepts_via ((h ∷ t) ++ v.more) v.tree s (λ ys. at_front h (t ++ rest) ((t ++ v.more) ++ (s ∷ ys)) (subst At e here)) (v.reads s k);
    };
  }

  pub case_via : (ts : List Token) (r : Read A) → At ts → ((x : A) → r ≡ Ok (x, ts) → (s : Token) → stop s.lexeme ≡ true → (ys : List Token) → At (s ∷ ys))
      → Case q' stop ts r → Case q stop ts r
  case_via ts (Ok x) here empty w = record {
    front = w.front;
    split = w.split;
    stops = λ s k. accepts_via w.front x.0 s
        (at_more ts x.1 w.front s w.split here (λ n. empty x.0 (ap (λ rest. Ok (x.0, rest)) (sym (w.split ∙ ap (λ front. front ++ x.1) n))) s k))
        (w.stops s k);
    next = λ s ys k. accepts_via w.front x.0 s
        (at_more ts x.1 w.front s w.split here (λ n zs. at_front s ys zs (subst At (w.split ∙ ap (λ front. front ++ x.1) n ∙ k) here)))
        (w.next s ys k);
  }
  case_via ts (Err rest) here empty v = stopped_via ts rest v.front v.split here v.goes

  pub phrase_via : (first : Option Token) (a : Phrase q' stop first) → ((s : Token) → stop s.lexeme ≡ true → (ys : List Token) → At (a.tokens ++ (s ∷ ys))) → Phrase q stop first
  phrase_via first a here = record { tokens = a.tokens; tree = a.tree; starts = a.starts; reads = λ s k. accepts_via a.tokens a.tree s (here s k) (a.reads s k) }

-- a reader that is another one, for all tokens
pub viable_same : {A : Type 0} → (p q q' : Reader A) (stop : Lexeme → Bool) → ((zs : List Token) → q zs ≡ q' zs) → Viable p q' stop → Viable p q stop
viable_same p q q' stop same v = record {
  each = λ ts. case_via q q' stop (λ _. Unit {0}) (λ h t u a. tt) (λ zs a. same zs) ts (p ts) tt (λ x e s k ys. tt) (v.each ts);
}

pub phrase_same : {A : Type 0} → (q q' : Reader A) (stop : Lexeme → Bool) (first : Option Token) → ((zs : List Token) → q zs ≡ q' zs) → Phrase q' stop first → Phrase q stop first
phrase_same q q' stop first same a = phrase_via q q' stop (λ _. Unit {0}) (λ h t u a. tt) (λ zs a. same zs) first a (λ s k ys. tt)

-- ---- past a token

module _ {A : Type 0} (q q' : Reader A) (stop : Lexeme → Bool) (t : Token) (same : (zs : List Token) → q (t ∷ zs) ≡ q' zs) (first : Option Token) (phrase : Phrase q' stop first) where
  accepts_past : (front : List Token) (x : A) (s : Token) → Accepts q' front x s → Accepts q (t ∷ front) x s
  accepts_past front x s a = record { reads = λ ys. same (front ++ (s ∷ ys)) ∙ a.reads ys }

  stopped_past : (ts rest front : List Token) → ts ≡ front ++ rest → MayContinue q' stop front → Stopped q stop (t ∷ ts) rest
  stopped_past ts rest [] e v = record {
    front = t ∷ [];
    split = ap (λ ts. t ∷ ts) e;
    goes = record { more = phrase.tokens; tree = phrase.tree; reads = λ s k. accepts_past phrase.tokens phrase.tree s (phrase.reads s k) };
  }
  stopped_past ts rest (h ∷ u) e v = record {
    front = t ∷ h ∷ u;
    split = ap (λ ts. t ∷ ts) e;
    goes = record { more = v.more; tree = v.tree; reads = λ s k. accepts_past ((h ∷ u) ++ v.more) v.tree s (v.reads s k) };
  }

  pub case_past : (ts : List Token) (r : Read A) → Case q' stop ts r → Case q stop (t ∷ ts) r
  case_past ts (Ok x) w = record {
    front = t ∷ w.front;
    split = ap (λ ts. t ∷ ts) w.split;
    stops = λ s k. accepts_past w.front x.0 s (w.stops s k);
    next = λ s ys k. accepts_past w.front x.0 s (w.next s ys k);
  }
  case_past ts (Err rest) v = stopped_past ts rest v.front v.split v.goes

-- nothing is read
pub at_once : {A : Type 0} → (q : Reader A) (stop : Lexeme → Bool) (ts : List Token) → Stopped q stop ts ts
at_once q stop ts = record { front = []; split = refl; goes = tt }

-- ---- by the next token

past_none : {A : Type 0} → (test : Lexeme → Bool) (go stay : Reader A) (zs : List Token) → begins test zs ≡ false → behind test go stay zs ≡ stay zs
past_none test go stay [] e = refl
past_none {A = A} test go stay (t ∷ zs) e = ap (λ b. if_past {A = A} (cond b (Some zs) None) go (stay (t ∷ zs))) e

first_begins : (test : Lexeme → Bool) (front : List Token) (s : Token) (ys : List Token) → begins test (front ++ (s ∷ ys)) ≡ test (first_of front s).lexeme
first_begins test [] s ys = refl
first_begins test (h ∷ t) s ys = refl

-- nothing was read, and then the test fails at the token that follows
abbrev pub Empty : {A : Type 0} → (Lexeme → Bool) → Reader A → (Lexeme → Bool) → Type 0
Empty {A = A} test p stop = (ts : List Token) (x : A) → p ts ≡ Ok (x, ts) → (l : Lexeme) → stop l ≡ true → test l ≡ false

pub never_empty : {A : Type 0} → (test : Lexeme → Bool) (p : Reader A) (stop : Lexeme → Bool) → Shortens p → Empty test p stop
never_empty test p stop short ts x e l k = absurd (takes_some p short ts x e)

pub phrase_stay : {A : Type 0} → (test : Lexeme → Bool) (go stay : Reader A) (stop : Lexeme → Bool) (first : Option Token) → Phrase stay stop first
    → ((s : Token) → stop s.lexeme ≡ true → test (either first s).lexeme ≡ false) → Phrase (behind test go stay) stop first
phrase_stay test go stay stop first a heads =
    phrase_via (behind test go stay) stay stop (λ zs. begins test zs ≡ false) (λ h t u a. a) (past_none test go stay) first a
    (λ s k ys. first_begins test a.tokens s ys ∙ ap (λ (t : Token). test t.lexeme) (a.starts s) ∙ heads s k)

module _ {A : Type 0} (test : Lexeme → Bool) (go stay go' stay' : Reader A) (stop : Lexeme → Bool) where
  behind_by : (more : Option Token) (t : Token) (ts : List Token) (b : Bool) → test t.lexeme ≡ b → Viable go go' stop → Phrase go' stop more → Viable stay stay' stop → Empty test stay stop
      → Case (behind test go' stay') stop (t ∷ ts) (if_past (cond b (Some ts) None) go (stay (t ∷ ts)))
  behind_by more t ts true e vg pg vs empty =
      case_past (behind test go' stay') go' stop t (λ zs. ap (λ b. if_past {A = A} (cond b (Some zs) None) go' (stay' (t ∷ zs))) e) more pg ts (go ts) (vg.each ts)
  behind_by more t ts false e vg pg vs empty =
      case_via (behind test go' stay') stay' stop (λ zs. begins test zs ≡ false) (λ h t u a. a) (past_none test go' stay') (t ∷ ts) (stay (t ∷ ts)) e
      (λ x o s k ys. empty (t ∷ ts) x o s.lexeme k) (vs.each (t ∷ ts))

  behind_each : (more : Option Token) → Viable go go' stop → Phrase go' stop more → Viable stay stay' stop → Empty test stay stop → (ts : List Token)
      → Case (behind test go' stay') stop ts (behind test go stay ts)
  behind_each more vg pg vs empty [] =
      case_via (behind test go' stay') stay' stop (λ zs. begins test zs ≡ false) (λ h t u a. a) (past_none test go' stay') [] (stay []) refl
      (λ x o s k ys. empty [] x o s.lexeme k) (vs.each [])
  behind_each more vg pg vs empty (t ∷ ts) = behind_by more t ts (test t.lexeme) refl vg pg vs empty

  -- past a token that passes the test the one, and else the other
  pub whole_behind : {more first : Option Token} → Whole go go' stop more → Whole stay stay' stop first → Empty test stay stop
      → ((s : Token) → stop s.lexeme ≡ true → test (either first s).lexeme ≡ false) → Whole (behind test go stay) (behind test go' stay') stop first
  whole_behind {more = more} {first = first} wg ws empty heads = record {
    viable = record { each = behind_each more wg.viable wg.phrase ws.viable empty };
    phrase = phrase_stay test go' stay' stop first ws.phrase heads;
  }

  before_by : (ts : List Token) (b : Bool) → begins test ts ≡ b → Viable go go' stop → Shortens go → Viable stay stay' stop → Empty test stay stop
      → Case (before test go' stay') stop ts (cond b (go ts) (stay ts))
  before_by ts true e vg short vs empty =
      case_via (before test go' stay') go' stop (λ zs. begins test zs ≡ true) (λ h t u a. a) (λ zs a. ap (λ b. cond b (go' zs) (stay' zs)) a) ts (go ts) e
      (λ x o s k ys. absurd (takes_some go short ts x o)) (vg.each ts)
  before_by ts false e vg short vs empty =
      case_via (before test go' stay') stay' stop (λ zs. begins test zs ≡ false) (λ h t u a. a) (λ zs a. ap (λ b. cond b (go' zs) (stay' zs)) a) ts (stay ts) e
      (λ x o s k ys. empty ts x o s.lexeme k) (vs.each ts)

  -- the one where the first token passes the test, and else the other
  pub whole_ahead : {first : Option Token} → Viable go go' stop → Shortens go → Whole stay stay' stop first → Empty test stay stop
      → ((s : Token) → stop s.lexeme ≡ true → test (either first s).lexeme ≡ false) → Whole (before test go stay) (before test go' stay') stop first
  whole_ahead {first = first} vg short ws empty heads = record {
    viable = record { each = λ ts. before_by ts (begins test ts) refl vg short ws.viable empty };
    phrase = phrase_via (before test go' stay') stay' stop (λ zs. begins test zs ≡ false) (λ h t u a. a) (λ zs a. ap (λ b. cond b (go' zs) (stay' zs)) a) first ws.phrase
        (λ s k ys. first_begins test ws.phrase.tokens s ys ∙ ap (λ (t : Token). test t.lexeme) (ws.phrase.starts s) ∙ heads s k);
  }

-- one of several, by the first token
pub viable_first : {A H : Type 0} → (head : List Token → H) (go go' : H → Reader A) (stop : Lexeme → Bool) → ((h : Token) (t u : List Token) → head (h ∷ t) ≡ head (h ∷ u))
    → ((h : H) → Viable (go h) (go' h) stop) → Shortens (by_first head go) → Viable (by_first head go) (by_first head go') stop
viable_first {H = H} head go go' stop same v short = record {
  each = λ ts. case_via (by_first head go') (go' (head ts)) stop (λ zs. head zs ≡ head ts) (λ h t u a. same h u t ∙ a) (λ zs a. ap (λ h. go' h zs) a) ts (go (head ts) ts) refl
      (λ x o s k ys. absurd (takes_some (by_first head go) short ts x o)) ((v (head ts)).each ts);
}

-- ---- one token

found_case : {A : Type 0} → (meaning : Token → Option A) (t : Token) (ts : List Token) (o : Option A) → meaning t ≡ o → Case (one meaning) any (t ∷ ts) (if_found o t ts)
found_case meaning t ts (Some x) e = record {
  front = t ∷ [];
  split = refl;
  stops = λ s k. record { reads = λ ys. ap (λ o. if_found o t (s ∷ ys)) e };
  next = λ s ys k. record { reads = λ zs. ap (λ o. if_found o t (s ∷ zs)) e };
}
found_case meaning t ts None e = at_once (one meaning) any (t ∷ ts)

one_each : {A : Type 0} → (meaning : Token → Option A) (ts : List Token) → Case (one meaning) any ts (one meaning ts)
one_each meaning [] = at_once (one meaning) any []
one_each meaning (t ∷ ts) = found_case meaning t ts (meaning t) refl

pub whole_one : {A : Type 0} → (meaning : Token → Option A) (t : Token) (x : A) → meaning t ≡ Some x → Whole (one meaning) (one meaning) any (Some t)
whole_one meaning t x e = record {
  viable = record { each = one_each meaning };
  phrase = record { tokens = t ∷ []; tree = x; starts = λ s. refl; reads = λ s k. record { reads = λ ys. ap (λ o. if_found o t (s ∷ ys)) e } };
}

expect_by : (test : Lexeme → Bool) (t : Token) (ts : List Token) (b : Bool) → test t.lexeme ≡ b
    → Case (expect test) any (t ∷ ts) (if_past {A = Unit {0}} (cond b (Some ts) None) (done tt) (Err (t ∷ ts)))
expect_by test t ts true e = record {
  front = t ∷ [];
  split = refl;
  stops = λ s k. record { reads = λ ys. ap (λ b. if_past {A = Unit {0}} (cond b (Some (s ∷ ys)) None) (done tt) (Err (t ∷ s ∷ ys))) e };
  next = λ s ys k. record { reads = λ zs. ap (λ b. if_past {A = Unit {0}} (cond b (Some (s ∷ zs)) None) (done tt) (Err (t ∷ s ∷ zs))) e };
}
expect_by test t ts false e = at_once (expect test) any (t ∷ ts)

expect_each : (test : Lexeme → Bool) (ts : List Token) → Case (expect test) any ts (expect test ts)
expect_each test [] = at_once (expect test) any []
expect_each test (t ∷ ts) = expect_by test t ts (test t.lexeme) refl

pub whole_expect : (test : Lexeme → Bool) (t : Token) → test t.lexeme ≡ true → Whole (expect test) (expect test) any (Some t)
whole_expect test t e = record {
  viable = record { each = expect_each test };
  phrase = record {
    tokens = t ∷ [];
    tree = tt;
    starts = λ s. refl;
    reads = λ s k. record { reads = λ ys. ap (λ b. if_past {A = Unit {0}} (cond b (Some (s ∷ ys)) None) (done tt) (Err (t ∷ s ∷ ys))) e };
  };
}

-- ---- operators

module _ (ops : Lexeme → Option Op) (stop : Lexeme → Bool) (quiet : (l : Lexeme) → stop l ≡ true → ops l ≡ None) (more : Option Token) where
  op_by : {A : Type 0} → (go go' : Op → Reader A) (stay : A) (t : Token) (ts : List Token) (o : Option Op) → ops t.lexeme ≡ o → ((o : Op) → Whole (go o) (go' o) stop more)
      → Case (with_op ops go' stay) stop (t ∷ ts) (if_op (op_before o ts) go stay (t ∷ ts))
  op_by {A = A} go go' stay t ts None e w = record {
    front = [];
    split = refl;
    stops = λ s k. record { reads = λ ys. ap (λ o. if_op {A = A} (op_before o ys) go' stay (s ∷ ys)) (quiet s.lexeme k) };
    next = λ s ys k. record { reads = λ zs. ap (λ o. if_op {A = A} (op_before o zs) go' stay (s ∷ zs)) (ap (λ (ts : List Token). ops (first_of ts s).lexeme) (sym k) ∙ e) };
  }
  op_by {A = A} go go' stay t ts (Some o) e w =
      case_past (with_op ops go' stay) (go' o) stop t (λ zs. ap (λ o. if_op {A = A} (op_before o zs) go' stay (t ∷ zs)) e) more (w o).phrase ts (go o ts) ((w o).viable.each ts)

  op_each : {A : Type 0} → (go go' : Op → Reader A) (stay : A) (ts : List Token) → ((o : Op) → Whole (go o) (go' o) stop more) → Case (with_op ops go' stay) stop ts (with_op ops go stay ts)
  op_each {A = A} go go' stay [] w = record {
    front = [];
    split = refl;
    stops = λ s k. record { reads = λ ys. ap (λ o. if_op {A = A} (op_before o ys) go' stay (s ∷ ys)) (quiet s.lexeme k) };
    next = λ s ys k. absurd cc;
  }
  op_each go go' stay (t ∷ ts) w = op_by go go' stay t ts (ops t.lexeme) refl w

  pub whole_op : {A : Type 0} → (go go' : Op → Reader A) (stay : A) → ((o : Op) → Whole (go o) (go' o) stop more) → Whole (with_op ops go stay) (with_op ops go' stay) stop None
  whole_op {A = A} go go' stay w = record {
    viable = record { each = λ ts. op_each go go' stay ts w };
    phrase = record { tokens = []; tree = stay; starts = λ s. refl; reads = λ s k. record { reads = λ ys. ap (λ o. if_op {A = A} (op_before o ys) go' stay (s ∷ ys)) (quiet s.lexeme k) } };
  }

  no_op_by : (left : Expr) (t : Token) (ts : List Token) (o : Option Op) → ops t.lexeme ≡ o
      → Case (without_op ops left) stop (t ∷ ts) (if_op {A = Expr} (op_before o ts) (λ _ _. Err (t ∷ ts)) left (t ∷ ts))
  no_op_by left t ts None e = record {
    front = [];
    split = refl;
    stops = λ s k. record { reads = λ ys. ap (λ o. if_op {A = Expr} (op_before o ys) (λ _ _. Err (s ∷ ys)) left (s ∷ ys)) (quiet s.lexeme k) };
    next = λ s ys k. record { reads = λ zs. ap (λ o. if_op {A = Expr} (op_before o zs) (λ _ _. Err (s ∷ zs)) left (s ∷ zs)) (ap (λ (ts : List Token). ops (first_of ts s).lexeme) (sym k) ∙ e) };
  }
  no_op_by left t ts (Some o) e = at_once (without_op ops left) stop (t ∷ ts)

  no_op_each : (left : Expr) (ts : List Token) → Case (without_op ops left) stop ts (without_op ops left ts)
  no_op_each left [] = record {
    front = [];
    split = refl;
    stops = λ s k. record { reads = λ ys. ap (λ o. if_op {A = Expr} (op_before o ys) (λ _ _. Err (s ∷ ys)) left (s ∷ ys)) (quiet s.lexeme k) };
    next = λ s ys k. absurd cc;
  }
  no_op_each left (t ∷ ts) = no_op_by left t ts (ops t.lexeme) refl

  pub whole_no_op : (left : Expr) → Whole (without_op ops left) (without_op ops left) stop None
  whole_no_op left = record {
    viable = record { each = no_op_each left };
    phrase = record { tokens = []; tree = left; starts = λ s. refl; reads = λ s k. record { reads = λ ys. ap (λ o. if_op {A = Expr} (op_before o ys) (λ _ _. Err (s ∷ ys)) left (s ∷ ys)) (quiet s.lexeme k) } };
  }

  whole_chain_from : (operand : Reader Expr) → Whole operand operand stop more → (count : ℕ) (left : Expr)
      → Whole (chain_from ops operand count left) (chain_from ops operand count left) stop None
  whole_chain_from operand w zero left = whole_no_op left
  whole_chain_from operand w (suc count) left =
      whole_op (λ o. operand >>= λ right. chain_from ops operand count (expr.Two o left right)) (λ o. operand >>= λ right. chain_from ops operand count (expr.Two o left right)) left
      (λ o. whole_maybe w (λ right. whole_chain_from operand w count (expr.Two o left right)))

  pub whole_chain : (operand : Reader Expr) → Whole operand operand stop more → Whole (chain_of ops operand) (chain_of ops operand) stop more
  whole_chain operand w = whole_maybe w (λ left. whole_chain_from operand w 32 left)

-- ---- lists

-- as many steps as there are tokens
abbrev pub list_all : {A : Type 0} → Reader A → List A → Reader (List A)
list_all item items ts = list_from item (length ts) items ts

abbrev pub many_all : {A : Type 0} → (Lexeme → Bool) → Reader A → List A → Reader (List A)
many_all test item items ts = many_from test item (length ts) items ts

module _ {A : Type 0} (item : Reader A) (short : Shortens item) (stop : Lexeme → Bool) (comma : (l : Lexeme) → stop l ≡ true → is_sign sign.Comma l ≡ false) (t : Token) (w : Whole item item stop (Some t)) where
  more_phrase : (items : List A) (x : A) → Phrase (list_more item items x) stop None
  more_phrase items x = phrase_stay (is_sign sign.Comma) (list_all item (items ++ x ∷ [])) (done (items ++ x ∷ [])) stop None (phrase_done stop (items ++ x ∷ [])) (λ s k. comma s.lexeme k)

  pub phrase_list : (items : List A) → Phrase (list_all item items) stop (Some t)
  phrase_list items = phrase_same (list_all item items) (item >>= list_more item items) stop (Some t) (list_step item short items)
      (phrase_then item (list_more item items) (list_more item items) stop stop None
      (record { phrase = more_phrase items; heads = λ s k. k; none = λ x ts y e l k. k }) (Some t) w.phrase)

  viable_list : (steps : ℕ) (items : List A) → Viable (list_from item steps items) (list_all item items) stop
  viable_list zero items = viable_refuse (list_all item items) stop
  viable_list (suc steps) items =
      viable_same (list_from item (suc steps) items) (list_all item items) (item >>= list_more item items) stop (list_step item short items)
      (whole_maybe {p = item} {q = item} {f = λ x. behind (is_sign sign.Comma) (list_from item steps (items ++ x ∷ [])) (done (items ++ x ∷ []))} {g = list_more item items} w
      (λ x. whole_behind (is_sign sign.Comma) (list_from item steps (items ++ x ∷ [])) (done (items ++ x ∷ [])) (list_all item (items ++ x ∷ [])) (done (items ++ x ∷ [])) stop
      (record { viable = viable_list steps (items ++ x ∷ []); phrase = phrase_list (items ++ x ∷ []) }) (whole_done stop (items ++ x ∷ [])) (λ ts y e l k. comma l k) (λ s k. comma s.lexeme k))).viable

  pub whole_list : Whole (list_of item) (list_of item) stop (Some t)
  whole_list = record { viable = record { each = λ ts. (viable_list (length ts) []).each ts }; phrase = phrase_list [] }

-- phrases as long as a token passes the test
module _ {A : Type 0} (test : Lexeme → Bool) (p q : Reader A) (short : Shortens p) (long : Shortens q) (stop : Lexeme → Bool) (quiet : (l : Lexeme) → stop l ≡ true → test l ≡ false)
    (inner : Lexeme → Bool) (under : (l : Lexeme) → stop l ≡ true → inner l ≡ true) (v : Viable p q inner) where
  many_phrase : (items : List A) → Phrase (many_all test q items) stop None
  many_phrase items = record {
    tokens = [];
    tree = items;
    starts = λ s. refl;
    reads = λ s k. record { reads = λ ys. many_step test q long items (s ∷ ys) ∙ ap (λ b. cond b (on_read (q (s ∷ ys)) (many_more test q items)) (Ok (items, s ∷ ys))) (quiet s.lexeme k) };
  }

  links : (items : List A) → Links inner (many_more test p items) (many_more test q items) stop None
  links items = record { phrase = λ x. many_phrase (items ++ x ∷ []); heads = λ s k. under s.lexeme k; none = λ x ts y e l k. under l k }

  -- what is after a phrase has fewer tokens
  many_behind : (items : List A) (n : ℕ) (ts : List Token) → length ts ≤ suc n → ((items : List A) (ts : List Token) → length ts ≤ n → Case (many_all test q items) stop ts (many_all test p items ts))
      → (r : Read A) → IsShorter ts r → Behind q (many_more test p items) (many_more test q items) inner stop None (links items) r
  many_behind items n ts h rec (Ok x) s = rec (items ++ x.0 ∷ []) x.1 (omega (arith, s, h))
  many_behind items n ts h rec (Err rest) s = tt

  -- a phrase takes a token, and what is after it gives none back
  none_empty : (items : List A) (ts : List Token) (r : Read A) → IsShorter ts r → (x : List A) → on_read r (many_more test p items) ≡ Ok (x, ts) → ⊥
  none_empty items ts (Ok y) s x e =
      omega (arith, s, subst (λ (r : Read (List A)). IsWithin y.1 r) e ((keeps_many_from test p short (length y.1) (items ++ y.0 ∷ [])).within y.1))
  none_empty items ts (Err rest) s x e = absurd cc

  many_by : (items : List A) (n : ℕ) (ts : List Token) (b : Bool) → begins test ts ≡ b → length ts ≤ suc n
      → ((items : List A) (ts : List Token) → length ts ≤ n → Case (many_all test q items) stop ts (many_all test p items ts))
      → Case (many_all test q items) stop ts (cond b (on_read (p ts) (many_more test p items)) (Ok (items, ts)))
  many_by items n ts true e h rec =
      case_via (many_all test q items) (q >>= many_more test q items) stop (λ zs. begins test zs ≡ true) (λ h t u a. a)
      (λ zs a. many_step test q long items zs ∙ ap (λ b. cond b (on_read (q zs) (many_more test q items)) (Ok (items, zs))) a) ts (on_read (p ts) (many_more test p items)) e
      (λ x o s k ys. absurd (none_empty items ts (p ts) (short.shorter ts) x o))
      (case_then q (many_more test p items) (many_more test q items) inner stop None (links items) ts (p ts) (v.each ts) (many_behind items n ts h rec (p ts) (short.shorter ts)))
  many_by items n ts false e h rec =
      case_via (many_all test q items) (done items) stop (λ zs. begins test zs ≡ false) (λ h t u a. a)
      (λ zs a. many_step test q long items zs ∙ ap (λ b. cond b (on_read (q zs) (many_more test q items)) (Ok (items, zs))) a) ts (Ok (items, ts)) e
      (λ x o s k ys. quiet s.lexeme k) (record { front = []; split = refl; stops = λ s k. record { reads = λ ys. refl }; next = λ s ys k. record { reads = λ zs. refl } })

  many_case : (n : ℕ) (items : List A) (ts : List Token) → length ts ≤ n → Case (many_all test q items) stop ts (many_all test p items ts)
  many_case zero items [] h = record {
    front = [];
    split = refl;
    stops = λ s k. record { reads = λ ys. many_step test q long items (s ∷ ys) ∙ ap (λ b. cond b (on_read (q (s ∷ ys)) (many_more test q items)) (Ok (items, s ∷ ys))) (quiet s.lexeme k) };
    next = λ s ys k. absurd cc;
  }
  many_case zero items (t ∷ ts) h = absurd (omega (arith, h))
  many_case (suc n) items ts h =
      subst (λ (r : Read (List A)). Case (many_all test q items) stop ts r) (sym (many_step test p short items ts)) (many_by items n ts (begins test ts) refl h (many_case n))

  pub whole_many : Whole (many_of test p) (many_of test q) stop None
  whole_many = record { viable = record { each = λ ts. many_case (length ts) [] ts (omega arith) }; phrase = many_phrase [] }
