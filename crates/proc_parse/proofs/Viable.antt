-- Where a reader stops, what it has read goes on to a phrase. The reader that goes on may allow more than the one that stops.
use Rattle.std.proofs.Common.{◌≡◌, List, [], ◌∷◌, ◌++◌, Bool, true, Option, Some, None, Ok, Err, refl, sym, ap, subst, ◌∙◌, append_assoc, arith}
use Rattle.proc_parse.specs.declared.token.Token.{Token}
use Rattle.proc_parse.specs.declared.token.Lexeme.{Lexeme}
use Rattle.proc_parse.specs.Reading.{Read, Reader, on_read, ◌>>=◌, done, refuse, IsShorter, Shortens}

-- a phrase at the start, up to a token, whatever follows that
pub record Accepts {A : Type 0} (q : Reader A) (front : List Token) (x : A) (h : Token) : Type 0 where
  pub reads : (ys : List Token) → q (front ++ (h ∷ ys)) ≡ Ok (x, h ∷ ys)

-- more tokens make it a phrase, up to any token that may follow one
pub record Completion {A : Type 0} (q : Reader A) (stop : Lexeme → Bool) (front : List Token) : Type 0 where
  pub more : List Token
  pub tree : A
  pub reads : (s : Token) → stop s.lexeme ≡ true → Accepts q (front ++ more) tree s

-- the same of what was read, if anything was
abbrev pub MayContinue : {A : Type 0} → Reader A → (Lexeme → Bool) → List Token → Type 0
MayContinue q stop [] = Unit {0}
MayContinue q stop (h ∷ t) = Completion q stop (h ∷ t)

pub record Stopped {A : Type 0} (q : Reader A) (stop : Lexeme → Bool) (ts rest : List Token) : Type 0 where
  pub front : List Token
  pub split : ts ≡ front ++ rest
  pub goes : MayContinue q stop front

-- what was read is read up to the token that follows it, and up to any that may follow it
pub record Was {A : Type 0} (q : Reader A) (stop : Lexeme → Bool) (ts : List Token) (x : A) (rest : List Token) : Type 0 where
  pub front : List Token
  pub split : ts ≡ front ++ rest
  pub stops : (s : Token) → stop s.lexeme ≡ true → Accepts q front x s
  pub next : (s : Token) (ys : List Token) → rest ≡ s ∷ ys → Accepts q front x s

abbrev pub Case : {A : Type 0} → Reader A → (Lexeme → Bool) → List Token → Read A → Type 0
Case q stop ts (Ok x) = Was q stop ts x.0 x.1
Case q stop ts (Err rest) = Stopped q stop ts rest

pub record Viable {A : Type 0} (p q : Reader A) (stop : Lexeme → Bool) : Type 0 where
  pub each : (ts : List Token) → Case q stop ts (p ts)

-- the first token of a phrase, or the one that follows it where it has none
abbrev pub either : Option Token → Token → Token
either None s = s
either (Some t) s = t

-- the first of tokens, or the one that follows them
abbrev pub first_of : List Token → Token → Token
first_of [] s = s
first_of (h ∷ t) s = h

-- some phrase, and its first token, if it has any
pub record Phrase {A : Type 0} (q : Reader A) (stop : Lexeme → Bool) (first : Option Token) : Type 0 where
  pub tokens : List Token
  pub tree : A
  pub starts : (s : Token) → first_of tokens s ≡ either first s
  pub reads : (s : Token) → stop s.lexeme ≡ true → Accepts q tokens tree s

pub record Whole {A : Type 0} (p q : Reader A) (stop : Lexeme → Bool) (first : Option Token) : Type 0 where
  pub viable : Viable p q stop
  pub phrase : Phrase q stop first

-- any token may follow
abbrev pub any : Lexeme → Bool
any l = true

goes_of : {A : Type 0} → (q : Reader A) (stop : Lexeme → Bool) (front : List Token) → Completion q stop front → MayContinue q stop front
goes_of q stop [] c = tt
goes_of q stop (h ∷ t) c = c

-- ---- nothing, and one phrase after another

pub phrase_done : {A : Type 0} → (stop : Lexeme → Bool) (x : A) → Phrase (done x) stop None
phrase_done stop x = record { tokens = []; tree = x; starts = λ s. refl; reads = λ s k. record { reads = λ ys. refl } }

pub whole_done : {A : Type 0} → (stop : Lexeme → Bool) (x : A) → Whole (done x) (done x) stop None
whole_done stop x = record {
  viable = record { each = λ ts. record { front = []; split = refl; stops = λ s k. record { reads = λ ys. refl }; next = λ s ys e. record { reads = λ ys. refl } } };
  phrase = phrase_done stop x;
}

pub viable_refuse : {A : Type 0} → (q : Reader A) (stop : Lexeme → Bool) → Viable refuse q stop
viable_refuse q stop = record { each = λ ts. record { front = []; split = refl; goes = tt } }

joined : {A : Type 0} → (q : Reader A) (front behind : List Token) (x : A) (s : Token) → Accepts q front x (first_of behind s) → (ys : List Token)
    → q (front ++ (behind ++ (s ∷ ys))) ≡ Ok (x, behind ++ (s ∷ ys))
joined q front [] x s a ys = a.reads ys
joined q front (h ∷ t) x s a ys = a.reads (t ++ (s ∷ ys))

join : {A B : Type 0} → (q : Reader A) (g : A → Reader B) (front behind : List Token) (x : A) (y : B) (s : Token)
    → Accepts q front x (first_of behind s) → Accepts (g x) behind y s → Accepts (q >>= g) (front ++ behind) y s
join {A = A} q g front behind x y s a b = record {
  reads = λ ys.
      ap (λ ts. on_read (q ts) g) (append_assoc front behind (s ∷ ys))
      ∙ ap (λ (r : Read A). on_read r g) (joined q front behind x s a ys)
      ∙ b.reads ys;
}

-- what may follow a phrase of the first, before one of the second
pub record Links {A B : Type 0} (inner : Lexeme → Bool) (f g : A → Reader B) (stop : Lexeme → Bool) (first : Option Token) : Type 0 where
  pub phrase : (x : A) → Phrase (g x) stop first
  pub heads : (s : Token) → stop s.lexeme ≡ true → inner (either first s).lexeme ≡ true
  pub none : (x : A) (ts : List Token) (y : B) → f x ts ≡ Ok (y, ts) → (l : Lexeme) → stop l ≡ true → inner l ≡ true

-- the first token of two phrases, one after the other
abbrev pub both_first : Option Token → Option Token → Option Token
both_first None second = second
both_first (Some t) second = Some t

first_both : (front behind : List Token) (s : Token) → first_of (front ++ behind) s ≡ first_of front (first_of behind s)
first_both [] behind s = refl
first_both (h ∷ t) behind s = refl

either_both : (own first : Option Token) (s : Token) → either own (either first s) ≡ either (both_first own first) s
either_both None first s = refl
either_both (Some t) first s = refl

module _ {A B : Type 0} (q : Reader A) (f g : A → Reader B) (inner stop : Lexeme → Bool) (first : Option Token) (links : Links inner f g stop first) where
  -- the second reader, if the first has read
  abbrev pub Behind : Read A → Type 0
  Behind (Ok x) = Case (g x.0) stop x.1 (f x.0 x.1)
  Behind (Err rest) = Unit {0}

  stops_at : (ts mid rest front2 : List Token) (x : A) (w : Was q inner ts x mid) (s : Token) → mid ≡ front2 ++ rest → (front2 ≡ [] → inner s.lexeme ≡ true)
      → Accepts q w.front x (first_of front2 s)
  stops_at ts mid rest [] x w s e k = w.stops s (k refl)
  stops_at ts mid rest (h ∷ t) x w s e k = w.next h (t ++ rest) e

  next_at : (ts mid rest front2 : List Token) (x : A) (w : Was q inner ts x mid) (s : Token) (ys : List Token) → mid ≡ front2 ++ rest → rest ≡ s ∷ ys
      → Accepts q w.front x (first_of front2 s)
  next_at ts mid rest [] x w s ys e k = w.next s ys (e ∙ k)
  next_at ts mid rest (h ∷ t) x w s ys e k = w.next h (t ++ rest) e

  -- the first token of the second phrase may follow the first one
  heads_at : (x : A) (s : Token) → stop s.lexeme ≡ true → inner (first_of (links.phrase x).tokens s).lexeme ≡ true
  heads_at x s k = subst (λ (t : Token). inner t.lexeme ≡ true) (sym ((links.phrase x).starts s)) (links.heads s k)

  stopped_behind : (ts mid rest front2 : List Token) (x : A) → Was q inner ts x mid → mid ≡ front2 ++ rest → MayContinue (g x) stop front2 → Stopped (q >>= g) stop ts rest
  stopped_behind ts mid rest [] x w e v = record {
    front = w.front;
    split = w.split ∙ ap (λ m. w.front ++ m) e;
    goes = goes_of (q >>= g) stop w.front (record {
      more = (links.phrase x).tokens;
      tree = (links.phrase x).tree;
      reads = λ s k. join q g w.front (links.phrase x).tokens x (links.phrase x).tree s (w.stops (first_of (links.phrase x).tokens s) (heads_at x s k)) ((links.phrase x).reads s k);
    });
  }
  stopped_behind ts mid rest (h ∷ t) x w e v = record {
    front = w.front ++ (h ∷ t);
    split = w.split ∙ ap (λ m. w.front ++ m) e ∙ sym (append_assoc w.front (h ∷ t) rest);
    goes = goes_of (q >>= g) stop (w.front ++ (h ∷ t)) (record {
      more = v.more;
      tree = v.tree;
      reads = λ s k. subst (λ front. Accepts (q >>= g) front v.tree s) (sym (append_assoc w.front (h ∷ t) v.more))
          (join q g w.front ((h ∷ t) ++ v.more) x v.tree s (w.next h (t ++ rest) e) (v.reads s k));
    });
  }

  stopped_first : (ts rest front : List Token) → ts ≡ front ++ rest → MayContinue q inner front → Stopped (q >>= g) stop ts rest
  stopped_first ts rest [] e v = record { front = []; split = e; goes = tt }
  stopped_first ts rest (h ∷ t) e v = record {
    front = h ∷ t;
    split = e;
    goes = record {
      more = v.more ++ (links.phrase v.tree).tokens;
      tree = (links.phrase v.tree).tree;
      reads = λ s k. subst (λ front. Accepts (q >>= g) front (links.phrase v.tree).tree s) (append_assoc (h ∷ t) v.more (links.phrase v.tree).tokens)
          (join q g ((h ∷ t) ++ v.more) (links.phrase v.tree).tokens v.tree (links.phrase v.tree).tree s
          (v.reads (first_of (links.phrase v.tree).tokens s) (heads_at v.tree s k)) ((links.phrase v.tree).reads s k));
    };
  }

  read_behind : (ts mid : List Token) (x : A) (w : Was q inner ts x mid) (r : Read B) → f x mid ≡ r → Case (g x) stop mid r → Case (q >>= g) stop ts r
  read_behind ts mid x w (Ok y) e v = record {
    front = w.front ++ v.front;
    split = w.split ∙ ap (λ m. w.front ++ m) v.split ∙ sym (append_assoc w.front v.front y.1);
    stops = λ s k. join q g w.front v.front x y.0 s
        (stops_at ts mid y.1 v.front x w s v.split
        (λ n. links.none x mid y.0 (e ∙ ap (λ rest. Ok (y.0, rest)) (sym (v.split ∙ ap (λ front. front ++ y.1) n))) s.lexeme k))
        (v.stops s k);
    next = λ s ys k. join q g w.front v.front x y.0 s (next_at ts mid y.1 v.front x w s ys v.split k) (v.next s ys k);
  }
  read_behind ts mid x w (Err rest) e v = stopped_behind ts mid rest v.front x w v.split v.goes

  pub case_then : (ts : List Token) (r : Read A) → Case q inner ts r → Behind r → Case (q >>= g) stop ts (on_read r f)
  case_then ts (Ok x) w v = read_behind ts x.1 x.0 w (f x.0 x.1) refl v
  case_then ts (Err rest) v u = stopped_first ts rest v.front v.split v.goes

  pub phrase_then : (own : Option Token) → Phrase q inner own → Phrase (q >>= g) stop (both_first own first)
  phrase_then own a = record {
    tokens = a.tokens ++ (links.phrase a.tree).tokens;
    tree = (links.phrase a.tree).tree;
    starts = λ s.
        first_both a.tokens (links.phrase a.tree).tokens s
        ∙ a.starts (first_of (links.phrase a.tree).tokens s)
        ∙ ap (either own) ((links.phrase a.tree).starts s)
        ∙ either_both own first s;
    reads = λ s k. join q g a.tokens (links.phrase a.tree).tokens a.tree (links.phrase a.tree).tree s
        (a.reads (first_of (links.phrase a.tree).tokens s) (heads_at a.tree s k)) ((links.phrase a.tree).reads s k);
  }

  behind_of : ((x : A) → Viable (f x) (g x) stop) → (r : Read A) → Behind r
  behind_of v (Ok x) = (v x.0).each x.1
  behind_of v (Err rest) = tt

  pub whole_by : (p : Reader A) (own : Option Token) → Whole p q inner own → ((x : A) → Viable (f x) (g x) stop) → Whole (p >>= f) (q >>= g) stop (both_first own first)
  whole_by p own h v = record { viable = record { each = λ ts. case_then ts (p ts) (h.viable.each ts) (behind_of v (p ts)) }; phrase = phrase_then own h.phrase }

-- what takes a token does not take none
pub takes_some : {A : Type 0} → (p : Reader A) → Shortens p → (ts : List Token) (x : A) → p ts ≡ Ok (x, ts) → ⊥
takes_some {A = A} p short ts x e = omega (arith, subst (λ (r : Read A). IsShorter ts r) e (short.shorter ts))

-- a phrase that any token may follow, and then another
pub whole_then : {A B : Type 0} {p q : Reader A} {f g : A → Reader B} {stop : Lexeme → Bool} {t : Token} {first : Option Token} → Whole p q any (Some t)
    → ((x : A) → Whole (f x) (g x) stop first) → Whole (p >>= f) (q >>= g) stop (Some t)
whole_then {p = p} {q = q} {f = f} {g = g} {stop = stop} {t = t} {first = first} h k =
    whole_by q f g any stop first (record { phrase = λ x. (k x).phrase; heads = λ s n. refl; none = λ x ts y e l n. refl }) p (Some t) h (λ x. (k x).viable)

-- a phrase that some tokens may follow, and then one that begins with such a token
pub whole_before : {A B : Type 0} {p q : Reader A} {f g : A → Reader B} {stop : Lexeme → Bool} {own : Option Token} {t : Token} (inner : Lexeme → Bool) → Whole p q inner own
    → ((x : A) → Whole (f x) (g x) stop (Some t)) → ((x : A) → Shortens (f x)) → inner t.lexeme ≡ true → Whole (p >>= f) (q >>= g) stop (both_first own (Some t))
whole_before {p = p} {q = q} {f = f} {g = g} {stop = stop} {own = own} {t = t} inner h k short head =
    whole_by q f g inner stop (Some t) (record { phrase = λ x. (k x).phrase; heads = λ s n. head; none = λ x ts y e l n. absurd (takes_some (f x) (short x) ts y e) }) p own h (λ x. (k x).viable)

-- a phrase, and then one that begins with what may follow the first, as the same tokens may that follow the second
pub whole_same : {A B : Type 0} {p q : Reader A} {f g : A → Reader B} {stop : Lexeme → Bool} {own : Option Token} {t : Token} → Whole p q stop own
    → ((x : A) → Whole (f x) (g x) stop (Some t)) → stop t.lexeme ≡ true → Whole (p >>= f) (q >>= g) stop (both_first own (Some t))
whole_same {p = p} {q = q} {f = f} {g = g} {stop = stop} {own = own} {t = t} h k head =
    whole_by q f g stop stop (Some t) (record { phrase = λ x. (k x).phrase; heads = λ s n. head; none = λ x ts y e l n. n }) p own h (λ x. (k x).viable)

-- a phrase, and then perhaps another, which the same tokens may follow
pub whole_maybe : {A B : Type 0} {p q : Reader A} {f g : A → Reader B} {stop : Lexeme → Bool} {own : Option Token} → Whole p q stop own
    → ((x : A) → Whole (f x) (g x) stop None) → Whole (p >>= f) (q >>= g) stop own
whole_maybe {p = p} {q = q} {f = f} {g = g} {stop = stop} {own = None} h k =
    whole_by q f g stop stop None (record { phrase = λ x. (k x).phrase; heads = λ s n. n; none = λ x ts y e l n. n }) p None h (λ x. (k x).viable)
whole_maybe {p = p} {q = q} {f = f} {g = g} {stop = stop} {own = Some t} h k =
    whole_by q f g stop stop None (record { phrase = λ x. (k x).phrase; heads = λ s n. n; none = λ x ts y e l n. n }) p (Some t) h (λ x. (k x).viable)

-- fewer tokens may follow
module _ {A : Type 0} (q : Reader A) (inner stop : Lexeme → Bool) (under : (l : Lexeme) → stop l ≡ true → inner l ≡ true) where
  goes_under : (front : List Token) → MayContinue q inner front → MayContinue q stop front
  goes_under [] v = tt
  goes_under (h ∷ t) v = record { more = v.more; tree = v.tree; reads = λ s k. v.reads s (under s.lexeme k) }

  case_under : (ts : List Token) (r : Read A) → Case q inner ts r → Case q stop ts r
  case_under ts (Ok x) w = record { front = w.front; split = w.split; stops = λ s k. w.stops s (under s.lexeme k); next = w.next }
  case_under ts (Err rest) v = record { front = v.front; split = v.split; goes = goes_under v.front v.goes }

  pub viable_under : (p : Reader A) → Viable p q inner → Viable p q stop
  viable_under p v = record { each = λ ts. case_under ts (p ts) (v.each ts) }

-- where any token may follow, some may
pub whole_any : {A : Type 0} {p q : Reader A} {first : Option Token} (stop : Lexeme → Bool) → Whole p q any first → Whole p q stop first
whole_any {p = p} {q = q} stop w = record {
  viable = viable_under q any stop (λ l k. refl) p w.viable;
  phrase = record { tokens = w.phrase.tokens; tree = w.phrase.tree; starts = w.phrase.starts; reads = λ s k. w.phrase.reads s refl };
}
