-- Each move keeps the rule of the queue.
use Rattle.std.proofs.Common.{◌≡◌, ◌≢◌, ◌⊎◌, ℕ, zero, suc, ◌+◌, ◌<◌, ◌≤◌, true, false, true≢false, List, [], ◌∷◌, ◌++◌, length, set, sym, refl, ap, ◌∙◌, subst, ⊎_elim, inl, inr, append_assoc, add-one, arith, length-set, length-append, eq-eqb, ne_eqb}
use Rattle.std.proofs.lemmas.List.{append-nil}
use mathlib.Core.Option.{some, some-injective, some-ne-none}
use lib.ListN.{get_elem?}
use Rattle.crossbeam_queue.specs.Fifo.{Pushes, Pops, Forks, Merges, Learns}
use Rattle.crossbeam_queue.proofs.Lists.{at_set, set_here, set_else}
use Rattle.rel_base.proofs.Stories.{entries_append}
use Rattle.order_queue.specs.declared.ticket.Ticket.{Ticket}
use Rattle.order_queue.specs.declared.ticket.PassView.{PassView}
use Rattle.order_queue.specs.declared.ticket.Known.{Known}
use Rattle.order_queue.specs.Rule.{client_of, ticket_at, end_of, puts, sent, tickets_of, Closed, KnownOk, AllKnown, AllPut, Fits, QueueRule, first_view, put_view, ended_view, took_view, more_view, client_view, knowing_view, spent_view}

off : false ≡ true → ⊥
off e = true≢false (sym e)

at_bound : (l : List PassView) (i : ℕ) (a : PassView) → get_elem? l i ≡ some a → i < length l
at_bound [] i a e = absurd (some-ne-none a (sym e))
at_bound (x ∷ xs) zero a e = omega arith
at_bound (x ∷ xs) (suc i) a e = let h = at_bound xs i a e in omega arith

at_end : (l : List PassView) (a b : PassView) (j : ℕ) → get_elem? (l ++ a ∷ []) j ≡ some b → (get_elem? l j ≡ some b) ⊎ ((length l ≡ j) × (a ≡ b))
at_end [] a b zero e = inr (refl, some-injective a b e)
at_end [] a b (suc j) e = absurd (some-ne-none b (sym e))
at_end (x ∷ xs) a b zero e = inl e
at_end (x ∷ xs) a b (suc j) e = ⊎_elim (λ (t : get_elem? xs j ≡ some b). inl t) (λ (t : (length xs ≡ j) × (a ≡ b)). inr (let h = t.0 in omega arith, t.1)) (at_end xs a b j e)

each_set : (P : ℕ → PassView → Type 0) (views : List PassView) (id : ℕ) (w : PassView) → P id w → ((j : ℕ) (u : PassView) → j ≢ id → get_elem? views j ≡ some u → P j u) → (j : ℕ) (u : PassView) → get_elem? (set views id w) j ≡ some u → P j u
each_set P views id w mine others j u e = ⊎_elim (λ (t : (j ≡ id) × (w ≡ u)). subst (λ (x : ℕ × PassView). P x.0 x.1) (λ i. (sym t.0 i, t.1 i)) mine)
    (λ (t : (j ≢ id) × (get_elem? views j ≡ some u)). others j u t.0 t.1) (at_set views id j w u e)

of_one : (k : ℕ) (x : Ticket) → x.client ≡ k → tickets_of k (x ∷ []) ≡ x ∷ []
of_one k x e = rw (eq-eqb (client_of x) k e) refl

of_none : (k : ℕ) (x : Ticket) → x.client ≢ k → tickets_of k (x ∷ []) ≡ []
of_none k x ne = rw (ne_eqb (client_of x) k ne) refl

of_more : (k : ℕ) (got items : List Ticket) (x : Ticket) → x.client ≡ k → tickets_of k (got ++ (items ++ x ∷ [])) ≡ tickets_of k (got ++ items) ++ x ∷ []
of_more k got items x e = ap (tickets_of k) (sym (append_assoc got items (x ∷ []))) ∙ (entries_append client_of k (got ++ items) (x ∷ []) ∙ ap (λ l. tickets_of k (got ++ items) ++ l) (of_one k x e))

of_same : (k : ℕ) (got items : List Ticket) (x : Ticket) → x.client ≢ k → tickets_of k (got ++ (items ++ x ∷ [])) ≡ tickets_of k (got ++ items)
of_same k got items x ne = ap (tickets_of k) (sym (append_assoc got items (x ∷ []))) ∙ (entries_append client_of k (got ++ items) (x ∷ []) ∙ (ap (λ l. tickets_of k (got ++ items) ++ l) (of_none k x ne) ∙ append-nil (tickets_of k (got ++ items))))

-- what is known stays so, where no closed client puts, and no pass opens again
known_stays : (views views' : List PassView) (all all' : List Ticket) → length views ≤ length views' → ((k : ℕ) → k < length views → Closed views k → Closed views' k × (tickets_of k all' ≡ tickets_of k all)) → (xs : List Known) → KnownOk views all xs → KnownOk views' all' xs
known_stays views views' all all' longer keep [] h = tt
known_stays views views' all all' longer keep (x ∷ xs) h = let below = h.0 in let k = keep x.client h.0 h.1 in (omega arith, k.0, k.1 ∙ h.2, known_stays views views' all all' longer keep xs h.3)

pub begins : QueueRule [] (first_view ∷ [])
begins = record { got = []; each = one; no_other = λ k _. refl }
  where
    one : (i : ℕ) (v : PassView) → get_elem? (first_view ∷ []) i ≡ some v → Fits [] [] (first_view ∷ []) i v
    one zero v e = subst (Fits [] [] (first_view ∷ []) 0) (some-injective _ _ e) (record { gets = λ _. (refl, refl, refl, refl, tt); sends = λ s. absurd (off s) })
    one (suc i) v e = absurd (some-ne-none v (sym e))

-- a pass that sends puts one ticket of its client
grows : (items : List Ticket) (views : List PassView) (pass : ℕ) (v w : PassView) (x : Ticket) → QueueRule items views → get_elem? views pass ≡ some v → v.sends ≡ true → w.sends ≡ true → w.gets ≡ v.gets → w.from ≡ v.from → x.client ≡ v.from
    → (sent pass v.put v.ended ++ x ∷ [] ≡ sent pass w.put w.ended) → QueueRule (items ++ x ∷ []) (set views pass w)
grows items views pass v w x h at s s' g f c next =
    let mine = (h.each pass v at).sends s in
    let to : x.client ≡ pass = c ∙ sym mine.1 in
    let n = length-set views pass w in
    let all = h.got ++ items in
    let all' = h.got ++ (items ++ x ∷ []) in
    let keep : (k : ℕ) → k < length views → Closed views k → Closed (set views pass w) k × (tickets_of k all' ≡ tickets_of k all) =
    λ k _ closed. let other : k ≢ pass = λ e. true≢false (sym s ∙ closed v (ap (get_elem? views) e ∙ at)) in
    ((λ u e. closed u (sym (set_else views pass k w other) ∙ e)), of_same k h.got items x (λ e. other (sym e ∙ to))) in
    record {
      got = h.got;
      each = each_set (Fits h.got (items ++ x ∷ []) (set views pass w)) views pass w
          (record {
            gets = λ t. absurd (true≢false (sym t ∙ (g ∙ mine.0)));
            sends = λ _. (g ∙ mine.0, mine.1 ∙ sym f, of_more pass h.got items x to ∙ (ap (λ l. l ++ x ∷ []) mine.2 ∙ next), mine.3);
          })
          (λ j u apart e. let old = h.each j u e in record {
            gets = λ t. let o = old.gets t in (o.0, o.1, o.2, n ∙ o.3, known_stays views (set views pass w) all all' (omega arith) keep u.known o.4);
            sends = λ t. let o = old.sends t in (o.0, o.1, of_same j h.got items x (λ e. apart (sym e ∙ to)) ∙ o.2, o.3);
          });
      no_other = λ k l.
          let inside : pass < length views = at_bound views pass v at in
          let some_number : 0 < pass = mine.3 in
          let l' : (k ≡ 0) ⊎ (length views ≤ k) = subst (λ (m : ℕ). (k ≡ 0) ⊎ (m ≤ k)) n l in
          of_same k h.got items x (λ e. let e' : k ≡ pass = sym e ∙ to in absurd (⊎_elim (λ (z : k ≡ 0). omega arith) (λ (b : length views ≤ k). omega arith) l')) ∙ h.no_other k l';
    }

pub put_pushes : (n pass : ℕ) (v : PassView) (x : Ticket) → v.sends ≡ true → v.ended ≡ false → x ≡ ticket_at v.from v.put → Pushes QueueRule n pass v x (λ w. w ≡ put_view v)
put_pushes n pass v x s unended is items views _ h at =
    let mine = (h.each pass v at).sends s in
    let next : sent pass v.put v.ended ++ x ∷ [] ≡ sent pass (v.put + 1) v.ended =
    subst (λ b. sent pass v.put b ++ x ∷ [] ≡ sent pass (v.put + 1) b) (sym unended)
    (ap (λ t. puts pass v.put ++ t ∷ []) (is ∙ ap (λ (k : ℕ). ticket_at k v.put) (sym mine.1)) ∙ ap (puts pass) (sym (add-one v.put))) in
    (put_view v, grows items views pass v (put_view v) x h at s s refl refl (ap client_of is) next, refl)

pub end_pushes : (n pass : ℕ) (v : PassView) (x : Ticket) → v.sends ≡ true → v.ended ≡ false → x ≡ end_of v.from → Pushes QueueRule n pass v x (λ w. w ≡ ended_view v)
end_pushes n pass v x s unended is items views _ h at =
    let mine = (h.each pass v at).sends s in
    let next : sent pass v.put v.ended ++ x ∷ [] ≡ sent pass v.put true =
    ap (λ b. sent pass v.put b ++ x ∷ []) unended ∙ ap (λ t. puts pass v.put ++ t ∷ []) (is ∙ ap end_of (sym mine.1)) in
    (ended_view v, grows items views pass v (ended_view v) x h at s s refl refl (ap client_of is) next, refl)

pub takes : (pass : ℕ) (v : PassView) → v.gets ≡ true → Pops QueueRule pass v (λ x w. w ≡ took_view x v)
takes pass v g x items views h at =
    let w = took_view x v in
    let mine = (h.each pass v at).gets g in
    let got = h.got ++ x ∷ [] in
    let same : got ++ items ≡ h.got ++ x ∷ items = append_assoc h.got (x ∷ []) items in
    let n = length-set views pass w in
    let keep : (k : ℕ) → k < length views → Closed views k → Closed (set views pass w) k × (tickets_of k (got ++ items) ≡ tickets_of k (h.got ++ x ∷ items)) =
    λ k _ closed. ((λ u e. each_set (λ j u. j ≡ k → u.sends ≡ false) views pass w (λ _. mine.1) (λ j u _ e is. closed u (ap (get_elem? views) (sym is) ∙ e)) k u e refl), ap (tickets_of k) same) in (
      w,
      record {
        got = got;
        each = each_set (Fits got items (set views pass w)) views pass w
            (record {
              gets = λ _. (mine.0, mine.1, ap (λ l. l ++ x ∷ []) mine.2, n ∙ mine.3, known_stays views (set views pass w) (h.got ++ x ∷ items) (got ++ items) (omega arith) keep v.known mine.4);
              sends = λ s. absurd (true≢false (sym s ∙ mine.1));
            })
            (λ j u apart e. let old = h.each j u e in record {
              gets = λ t. absurd (apart ((old.gets t).0 ∙ sym mine.0));
              sends = λ t. let o = old.sends t in (o.0, o.1, ap (tickets_of j) same ∙ o.2, o.3);
            });
        no_other = λ k l. ap (tickets_of k) same ∙ h.no_other k (subst (λ (m : ℕ). (k ≡ 0) ⊎ (m ≤ k)) n l);
      },
      refl,
    )

-- a closed pass stays closed where a pass changes to one that does not send
closed_set : (views : List PassView) (pass : ℕ) (w : PassView) (k : ℕ) → w.sends ≡ false → Closed views k → Closed (set views pass w) k
closed_set views pass w k silent closed u e = each_set (λ j z. j ≡ k → z.sends ≡ false) views pass w (λ _. silent) (λ j z _ e' is. closed z (ap (get_elem? views) (sym is) ∙ e')) k u e refl

pub forks : (pass : ℕ) (v : PassView) → v.gets ≡ true → Forks QueueRule pass v (more_view v) (client_view v)
forks pass v g items views h at =
    let w = more_view v in
    let new = client_view v in
    let vs = set views pass w in
    let all = h.got ++ items in
    let mine = (h.each pass v at).gets g in
    let n : length vs ≡ length views = length-set views pass w in
    let size : length views ≡ v.made + 1 = mine.3 in
    let longer : length (vs ++ new ∷ []) ≡ length vs + 1 = length-append vs (new ∷ []) in
    let keep : (k : ℕ) → k < length views → Closed views k → Closed (vs ++ new ∷ []) k × (tickets_of k all ≡ tickets_of k all) =
    λ k below closed. ((λ u e. ⊎_elim (λ (t : get_elem? vs k ≡ some u). closed_set views pass w k mine.1 closed u t) (λ (t : (length vs ≡ k) × (new ≡ u)). let b = t.0 in absurd (omega arith)) (at_end vs new u k e)), refl) in
    let old = each_set (Fits h.got items (vs ++ new ∷ [])) views pass w
    (record {
      gets = λ _. (mine.0, mine.1, mine.2, omega arith, known_stays views (vs ++ new ∷ []) all all (omega arith) keep v.known mine.4);
      sends = λ s. absurd (true≢false (sym s ∙ mine.1));
    })
    (λ j u apart e. let o = h.each j u e in record { gets = λ t. absurd (apart ((o.gets t).0 ∙ sym mine.0)); sends = o.sends }) in
    let here : Fits h.got items (vs ++ new ∷ []) (length vs) new = record {
      gets = λ t. absurd (off t);
      sends = λ _. (refl, n ∙ size, h.no_other (length vs) (inr (omega arith)), omega arith);
    } in
    record {
      got = h.got;
      each = λ j u e. ⊎_elim (λ (t : get_elem? vs j ≡ some u). old j u t) (λ (t : (length vs ≡ j) × (new ≡ u)). subst (λ (x : ℕ × PassView). Fits h.got items (vs ++ new ∷ []) x.0 x.1) (λ i. (t.0 i, t.1 i)) here) (at_end vs new u j e);
      no_other = λ k l. h.no_other k (⊎_elim (λ (z : k ≡ 0). inl z) (λ (b : length (vs ++ new ∷ []) ≤ k). inr (omega arith)) l);
    }

pub merges : (pass : ℕ) (v : PassView) (other : ℕ) (u : PassView) → v.gets ≡ true → u.sends ≡ true → Merges QueueRule pass v other u (knowing_view v u) spent_view
merges pass v other u g s items views h at apart there =
    let w = knowing_view v u in
    let vs = set views pass w in
    let ends = set vs other spent_view in
    let all = h.got ++ items in
    let there' : get_elem? views other ≡ some u = sym (set_else views pass other w apart) ∙ there in
    let mine = (h.each pass v at).gets g in
    let theirs = (h.each other u there').sends s in
    let n : length vs ≡ length views = length-set views pass w in
    let n' : length ends ≡ length vs = length-set vs other spent_view in
    let below = at_bound views other u there' in
    let keep : (k : ℕ) → k < length views → Closed views k → Closed ends k × (tickets_of k all ≡ tickets_of k all) =
    λ k _ closed. (closed_set vs other spent_view k refl (closed_set views pass w k mine.1 closed), refl) in
    let shut : Closed ends other = λ z e. let same = some-injective z spent_view (sym e ∙ set_here vs other spent_view (omega arith)) in ap (λ (y : PassView). y.sends) same in
    let from = theirs.1 in
    let old = each_set (Fits h.got items ends) views pass w
    (record {
      gets = λ _. (
        mine.0,
        mine.1,
        mine.2,
        n' ∙ (n ∙ mine.3),
        (
          subst (λ (k : ℕ). k < length ends) from (omega arith),
          subst (Closed ends) from shut,
          subst (λ (k : ℕ). tickets_of k all ≡ sent k u.put u.ended) from theirs.2,
          known_stays views ends all all (omega arith) keep v.known mine.4,
        ),
      );
      sends = λ t. absurd (true≢false (sym t ∙ mine.1));
    })
    (λ j z away e. let o = h.each j z e in record { gets = λ t. absurd (away ((o.gets t).0 ∙ sym mine.0)); sends = o.sends }) in
    record {
      got = h.got;
      each = each_set (Fits h.got items ends) vs other spent_view (record { gets = λ t. absurd (off t); sends = λ t. absurd (off t) }) (λ j z _ e. old j z e);
      no_other = λ k l. h.no_other k (subst (λ (m : ℕ). (k ≡ 0) ⊎ (m ≤ k)) (n' ∙ n) l);
    }

all_known : (views : List PassView) (all : List Ticket) (xs : List Known) → KnownOk views all xs → AllKnown all xs
all_known views all [] h = tt
all_known views all (x ∷ xs) h = (h.2, all_known views all xs h.3)

-- the caller, where the queue holds these tickets
pub learns : (pass : ℕ) (v : PassView) → v.gets ≡ true → Learns QueueRule pass v (λ items. AllPut (v.got ++ items) v.made v.known)
learns pass v g items views h at =
    let mine = (h.each pass v at).gets g in
    let size : length views ≡ v.made + 1 = mine.3 in
    subst (λ l. AllPut (l ++ items) v.made v.known) (sym mine.2)
    (record {
      all = all_known views (h.got ++ items) v.known mine.4;
      no_other = λ k l. h.no_other k (⊎_elim (λ (z : k ≡ 0). inl z) (λ (b : v.made < k). inr (omega arith)) l);
    })
