-- What a list of at most so many elements has read where it stops goes on to one that may have an element more.
use Rattle.std.proofs.Common.{◌≡◌, ℕ, zero, suc, List, [], ◌∷◌, ◌++◌, Bool, true, false, Some, None}
use Rattle.proc_parse.specs.declared.token.Token.{Token}
use Rattle.proc_parse.specs.declared.token.Lexeme.{Lexeme}
use Rattle.proc_parse.specs.Reading.{Reader, behind, done}
use Rattle.proc_parse.proofs.Viable.{Phrase, Whole, phrase_done, phrase_then, viable_refuse, whole_done, whole_maybe}
use Rattle.proc_parse.proofs.ViableForms.{phrase_stay, whole_behind}
use Rattle.query_text.specs.Lists.{list_upto, separates, upto_from}
use Rattle.query_text.specs.declared.lists.Separator.{Separator}

module _ {A : Type 0} (by : Separator) (element : Reader A) (stop : Lexeme → Bool) (quiet : (l : Lexeme) → stop l ≡ true → separates by l ≡ false) (t : Token) (w : Whole element element stop (Some t)) where
  -- what follows an element
  abbrev next : ℕ → List A → A → Reader (List A)
  next more items x = behind (separates by) (upto_from by element more (items ++ x ∷ [])) (done (items ++ x ∷ []))

  next_phrase : (more : ℕ) (items : List A) (x : A) → Phrase (next more items x) stop None
  next_phrase more items x = phrase_stay (separates by) (upto_from by element more (items ++ x ∷ [])) (done (items ++ x ∷ [])) stop None (phrase_done stop (items ++ x ∷ [])) (λ s k. quiet s.lexeme k)

  phrase_from : (more : ℕ) (items : List A) → Phrase (upto_from by element (suc more) items) stop (Some t)
  phrase_from more items =
      phrase_then element (next more items) (next more items) stop stop None (record { phrase = next_phrase more items; heads = λ s k. k; none = λ x ts y e l k. k }) (Some t) w.phrase

  whole_from : (more : ℕ) (items : List A) → Whole (upto_from by element more items) (upto_from by element (suc more) items) stop (Some t)
  whole_from zero items = record { viable = viable_refuse (upto_from by element 1 items) stop; phrase = phrase_from 0 items }
  whole_from (suc more) items =
      whole_maybe {p = element} {q = element} {f = next more items} {g = next (suc more) items} w
      (λ x. whole_behind (separates by) (upto_from by element more (items ++ x ∷ [])) (done (items ++ x ∷ [])) (upto_from by element (suc more) (items ++ x ∷ [])) (done (items ++ x ∷ [])) stop
      (whole_from more (items ++ x ∷ [])) (whole_done stop (items ++ x ∷ [])) (λ ts y e l k. quiet l k) (λ s k. quiet s.lexeme k))

  pub whole_upto : (most : ℕ) → Whole (list_upto by element most) (list_upto by element (suc most)) stop (Some t)
  whole_upto most = whole_from most []
