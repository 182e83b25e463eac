-- Where a text is not an application, the tokens before the first that nothing allows are the prefix of one.
use Rattle.std.proofs.Common.{◌≡◌, ℕ, List, [], ◌∷◌, ◌++◌, Bool, true, false, cond, Some, None, Ok, Err, refl, sym, ap, ◌∙◌, append_assoc}
use Rattle.proc_syntax.specs.declared.tree.TableText.{TableText}
use Rattle.proc_syntax.specs.declared.tree.ProcDef.{ProcDef}
use Rattle.proc_syntax.specs.declared.tree.App.{App}
use Rattle.proc_parse.specs.declared.token.Token.{Token}
use Rattle.proc_parse.specs.declared.token.Lexeme.{Lexeme}
use Rattle.proc_parse.specs.declared.token.Lexeme.TheVariants as lexeme
use Rattle.proc_parse.specs.declared.token.Word.{Word}
use Rattle.proc_parse.specs.declared.token.Word.TheVariants as word
use Rattle.proc_parse.specs.declared.token.Sign.TheVariants as sign
use Rattle.proc_parse.specs.Words.{is_word}
use Rattle.proc_parse.specs.Tokens.{tokens_of}
use Rattle.proc_parse.specs.Reading.{Read, Reader, on_read, ◌>>=◌, ◌>>◌, behind, done, if_past, expect, Shortens}
use Rattle.proc_parse.specs.Lists.{many_of}
use Rattle.proc_parse.specs.Phrases.{ended, named_behind, the_word}
use Rattle.proc_parse.specs.Statements.{block_at}
use Rattle.proc_parse.specs.Grammar.{table, parameters, procedure_of, procedure, is_end, declares_exact, application_of, application, deeper_application}
use Rattle.proc_parse.specs.Shorter.{shortens_then, shortens_named_behind, shortens_table, shortens_procedure, keeps_then, keeps_done, keeps_parameters, keeps_block}
use Rattle.proc_parse.specs.Faults.{position_of, IsViable, IsBehindViable}
use Rattle.proc_parse.proofs.Halts.{has_last, some_left}
use Rattle.proc_parse.proofs.Viable.{Accepts, MayContinue, Case, Whole, any, whole_any, whole_done, whole_maybe}
use Rattle.proc_parse.proofs.ViableForms.{whole_behind, whole_many}
use Rattle.proc_parse.proofs.ViableRules.{token, viable_table, viable_procedure, whole_exact}

abbrev deeper_procedure : Reader ProcDef
deeper_procedure = procedure_of (block_at 17)

shortens_deeper : Shortens deeper_procedure
shortens_deeper = shortens_then (named_behind word.Proc) _ (shortens_named_behind word.Proc)
    (λ name. keeps_then parameters _ keeps_parameters (λ params. keeps_then (block_at 17) _ (keeps_block 17) (λ body. keeps_done _)))

-- an application up to its end
abbrev body_of : Reader ProcDef → Reader App
body_of proc = declares_exact >>= λ exact. many_of (is_word word.Table) table >>= λ tables. many_of (is_word word.Proc) proc >>= λ procs.
    done (record { exact = exact; tables = tables; procs = procs })

abbrev finish : App → Reader App
finish app = expect is_end >> done app

after_procs : (exact : Bool) (tables : List TableText) (r : Read (List ProcDef))
    → on_read r (λ procs. finish (record { exact = exact; tables = tables; procs = procs }))
    ≡ on_read (on_read r (λ procs. done (record { exact = exact; tables = tables; procs = procs }))) finish
after_procs exact tables (Ok x) = refl
after_procs exact tables (Err rest) = refl

after_tables : (proc : Reader ProcDef) (exact : Bool) (r : Read (List TableText))
    → on_read r (λ tables. many_of (is_word word.Proc) proc >>= λ procs. finish (record { exact = exact; tables = tables; procs = procs }))
    ≡ on_read (on_read r (λ tables. many_of (is_word word.Proc) proc >>= λ procs. done (record { exact = exact; tables = tables; procs = procs }))) finish
after_tables proc exact (Ok x) = after_procs exact x.0 (many_of (is_word word.Proc) proc x.1)
after_tables proc exact (Err rest) = refl

after_exact : (proc : Reader ProcDef) (r : Read Bool)
    → on_read r (λ exact. many_of (is_word word.Table) table >>= λ tables. many_of (is_word word.Proc) proc >>= λ procs.
    finish (record { exact = exact; tables = tables; procs = procs }))
    ≡ on_read (on_read r (λ exact. many_of (is_word word.Table) table >>= λ tables. many_of (is_word word.Proc) proc >>= λ procs.
    done (record { exact = exact; tables = tables; procs = procs }))) finish
after_exact proc (Ok x) = after_tables proc x.0 (many_of (is_word word.Table) table x.1)
after_exact proc (Err rest) = refl

by_body : (proc : Reader ProcDef) (ts : List Token) → application_of proc ts ≡ on_read (body_of proc ts) finish
by_body proc ts = after_exact proc (declares_exact ts)

end_quiet : (w : Word) (l : Lexeme) → is_end l ≡ true → is_word w l ≡ false
end_quiet w (lexeme.Word v) h = absurd cc
end_quiet w (lexeme.Name v) h = absurd cc
end_quiet w (lexeme.Int v) h = absurd cc
end_quiet w (lexeme.Text v) h = absurd cc
end_quiet w (lexeme.Bytes v) h = absurd cc
end_quiet w (lexeme.Sign v) h = absurd cc
end_quiet w lexeme.Bad h = absurd cc
end_quiet w lexeme.End h = refl

whole_isolation : Whole declares_exact declares_exact is_end None
whole_isolation = whole_behind (is_word word.Isolation) (the_word word.Exact >> ended sign.Semicolon true) (done false)
    (the_word word.Exact >> ended sign.Semicolon true) (done false) is_end (whole_any is_end whole_exact) (whole_done is_end false)
    (λ ts x e. end_quiet word.Isolation) (λ s k. end_quiet word.Isolation s.lexeme k)

whole_body : Whole (body_of procedure) (body_of deeper_procedure) is_end None
whole_body = whole_maybe whole_isolation
    (λ exact. whole_maybe (whole_many (is_word word.Table) table table shortens_table shortens_table is_end (end_quiet word.Table) any (λ l k. refl) viable_table)
    (λ tables. whole_maybe (whole_many (is_word word.Proc) procedure deeper_procedure shortens_procedure shortens_deeper is_end (end_quiet word.Proc) any (λ l k. refl) viable_procedure)
    (λ procs. whole_done is_end (record { exact = exact; tables = tables; procs = procs }))))

abbrev end_token : Token
end_token = token lexeme.End

finished : (front : List Token) (app : App) → Accepts (body_of deeper_procedure) front app end_token → deeper_application (front ++ (end_token ∷ [])) ≡ Ok (app, [])
finished front app a = by_body deeper_procedure (front ++ (end_token ∷ [])) ∙ ap (λ (r : Read App). on_read r finish) (a.reads [])

goes_viable : (front : List Token) → MayContinue (body_of deeper_procedure) is_end front → IsViable front
goes_viable [] v = record {
  more = whole_body.phrase.tokens ++ (end_token ∷ []);
  app = whole_body.phrase.tree;
  read = finished whole_body.phrase.tokens whole_body.phrase.tree (whole_body.phrase.reads end_token refl);
}
goes_viable (h ∷ t) v = record {
  more = v.more ++ (end_token ∷ []);
  app = v.tree;
  read = ap deeper_application (sym (append_assoc (h ∷ t) v.more (end_token ∷ []))) ∙ finished ((h ∷ t) ++ v.more) v.tree (v.reads end_token refl);
}

stop_by : (app : App) (t : Token) (ts rest : List Token) (b : Bool)
    → on_read (if_past {A = Unit {0}} (cond b (Some ts) None) (done tt) (Err (t ∷ ts))) (λ _. done app) ≡ Err rest → t ∷ ts ≡ rest
stop_by app t ts rest true e = absurd cc
stop_by app t ts rest false e = cc

stop_at : (app : App) (mid rest : List Token) → finish app mid ≡ Err rest → mid ≡ rest
stop_at app [] rest e = cc
stop_at app (t ∷ ts) rest e = stop_by app t ts rest (is_end t.lexeme) e

record Fronted (ts rest : List Token) : Type 0 where
  front : List Token
  split : ts ≡ front ++ rest
  viable : IsViable front

fronted : (ts rest : List Token) (r : Read App) → Case (body_of deeper_procedure) is_end ts r → on_read r finish ≡ Err rest → Fronted ts rest
fronted ts rest (Ok x) w e = record {
  front = w.front;
  split = w.split ∙ ap (λ m. w.front ++ m) (stop_at x.0 x.1 rest e);
  viable = record { more = end_token ∷ []; app = x.0; read = finished w.front x.0 (w.stops end_token refl) };
}
fronted ts rest (Err mid) v e =
    let same : mid ≡ rest = cc in
    record { front = v.front; split = v.split ∙ ap (λ m. v.front ++ m) same; viable = goes_viable v.front v.goes }

some_viable : (ts rest : List Token) → application ts ≡ Err rest → has_last rest ≡ true → IsBehindViable ts (position_of rest).line (position_of rest).col
some_viable ts [] e h = absurd cc
some_viable ts (t ∷ rest) e h =
    let f = fronted ts (t ∷ rest) (body_of procedure ts) (whole_body.viable.each ts) (sym (by_body procedure ts) ∙ e) in
    record { front = f.front; token = t; behind = rest; split = f.split; has_line = refl; has_col = refl; viable = f.viable }

-- the tokens before the one that is named go on to an application
pub text_viable : (text : List ℕ) (rest : List Token) → application (tokens_of text) ≡ Err rest → IsBehindViable (tokens_of text) (position_of rest).line (position_of rest).col
text_viable text rest e = some_viable (tokens_of text) rest e (some_left text rest e)
