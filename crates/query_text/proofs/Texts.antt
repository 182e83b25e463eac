-- Where a text is not a query, a token stands that nothing allows, and those before it go on to one.
use Rattle.std.proofs.Common.{◌≡◌, ℕ, List, [], ◌∷◌, ◌++◌, Bool, true, false, cond, Some, None, Ok, Err, refl, sym, ap, subst, ◌∙◌, append_assoc}
use Rattle.proc_parse.specs.declared.token.Token.{Token}
use Rattle.proc_parse.specs.declared.token.Lexeme.TheVariants as lexeme
use Rattle.proc_parse.specs.Faults.{position_of}
use Rattle.proc_parse.specs.Grammar.{is_end}
use Rattle.proc_parse.specs.Reading.{Read, on_read, done, if_past}
use Rattle.proc_parse.specs.Tokens.{tokens_of}
use Rattle.proc_parse.proofs.Halts.{SomeLeft, has_last, left_end, left_then, text_last}
use Rattle.proc_parse.proofs.Local.{IsLocal, bad_stays, left, local_done, local_expect, local_then}
use Rattle.proc_parse.proofs.Viable.{Accepts, Case, MayContinue, any}
use Rattle.proc_parse.proofs.ViableRules.{token}
use Rattle.query_text.specs.Faults.{IsAfterViable, IsRefused, IsViable}
use Rattle.query_text.specs.Grammar.{finish, query, query_upto, select_upto}
use Rattle.query_text.specs.declared.tree.SelectText.{SelectText}
use Rattle.query_text.proofs.Steadily.{steady_query}
use Rattle.query_text.proofs.Wholes.{whole_query}

local_query : IsLocal query
local_query = local_then (select_upto 4 16) finish steady_query.local (λ select. local_then _ (λ _. done select) (local_expect is_end) (λ _. local_done select))

-- where a query is not read, something is left
some_left : (text : List ℕ) (rest : List Token) → query (tokens_of text) ≡ Err rest → has_last rest ≡ true
some_left text rest e =
    subst SomeLeft e (left_then (select_upto 4 16 (tokens_of text)) finish (steady_query.halts.ends (tokens_of text) (text_last text)) (λ select xs h. left_end select xs h))

some_refused : (ts rest : List Token) → query ts ≡ Err rest → has_last rest ≡ true → IsRefused ts (position_of rest).line (position_of rest).col
some_refused ts [] e h = absurd cc
some_refused ts (t ∷ rest) e h =
    let suffix = local_query.suffix ts in
    let split : ts ≡ suffix.front ++ (t ∷ rest) = suffix.split ∙ ap (λ r. suffix.front ++ left r) e in
    record {
      before = suffix.front;
      token = t;
      after = rest;
      split = split;
      has_line = refl;
      has_col = refl;
      blocked = λ any. bad_stays query local_query suffix.front t rest any (ap query (sym split) ∙ e);
    }

pub text_refused : (text : List ℕ) (rest : List Token) → query (tokens_of text) ≡ Err rest → IsRefused (tokens_of text) (position_of rest).line (position_of rest).col
text_refused text rest e = some_refused (tokens_of text) rest e (some_left text rest e)

-- ---- what stands before it

abbrev end_token : Token
end_token = token lexeme.End

finished : (before : List Token) (select : SelectText) → Accepts (select_upto 5 17) before select end_token → query_upto 5 17 (before ++ (end_token ∷ [])) ≡ Ok (select, [])
finished before select a = ap (λ (r : Read SelectText). on_read r finish) (a.reads [])

goes_viable : (before : List Token) → MayContinue (select_upto 5 17) any before → IsViable before
goes_viable [] v = record {
  more = whole_query.phrase.tokens ++ (end_token ∷ []);
  select = whole_query.phrase.tree;
  read = finished whole_query.phrase.tokens whole_query.phrase.tree (whole_query.phrase.reads end_token refl);
}
goes_viable (h ∷ t) v = record {
  more = v.more ++ (end_token ∷ []);
  select = v.tree;
  read = ap (query_upto 5 17) (sym (append_assoc (h ∷ t) v.more (end_token ∷ []))) ∙ finished ((h ∷ t) ++ v.more) v.tree (v.reads end_token refl);
}

stop_by : (select : SelectText) (t : Token) (ts rest : List Token) (b : Bool)
    → on_read (if_past {A = Unit {0}} (cond b (Some ts) None) (done tt) (Err (t ∷ ts))) (λ _. done select) ≡ Err rest → t ∷ ts ≡ rest
stop_by select t ts rest true e = absurd cc
stop_by select t ts rest false e = cc

stop_at : (select : SelectText) (mid rest : List Token) → finish select mid ≡ Err rest → mid ≡ rest
stop_at select [] rest e = cc
stop_at select (t ∷ ts) rest e = stop_by select t ts rest (is_end t.lexeme) e

record Split (ts rest : List Token) : Type 0 where
  before : List Token
  split : ts ≡ before ++ rest
  viable : IsViable before

split_at : (ts rest : List Token) (r : Read SelectText) → Case (select_upto 5 17) any ts r → on_read r finish ≡ Err rest → Split ts rest
split_at ts rest (Ok x) w e = record {
  before = w.front;
  split = w.split ∙ ap (λ m. w.front ++ m) (stop_at x.0 x.1 rest e);
  viable = record { more = end_token ∷ []; select = x.0; read = finished w.front x.0 (w.stops end_token refl) };
}
split_at ts rest (Err mid) v e =
    let same : mid ≡ rest = cc in
    record { before = v.front; split = v.split ∙ ap (λ m. v.front ++ m) same; viable = goes_viable v.front v.goes }

some_viable : (ts rest : List Token) → query ts ≡ Err rest → has_last rest ≡ true → IsAfterViable ts (position_of rest).line (position_of rest).col
some_viable ts [] e h = absurd cc
some_viable ts (t ∷ rest) e h =
    let s = split_at ts (t ∷ rest) (select_upto 4 16 ts) (whole_query.viable.each ts) e in
    record { before = s.before; token = t; after = rest; split = s.split; has_line = refl; has_col = refl; viable = s.viable }

pub text_viable : (text : List ℕ) (rest : List Token) → query (tokens_of text) ≡ Err rest → IsAfterViable (tokens_of text) (position_of rest).line (position_of rest).col
text_viable text rest e = some_viable (tokens_of text) rest e (some_left text rest e)
