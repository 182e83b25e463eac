use Rattle.std.proofs.Common.{◌∙◌, ap, subst, sym}
use Rattle.row_sets.specs.Overlay.{AreFound, Written, own_of, put_own}
use Rattle.row_sets.proofs.Listing.{Ref}
use Rattle.row_sets.proofs.Endings.{either_way, on_err_then, on_ok_then}
use Rattle.row_sets.proofs.Owns.{found_put, own_of_put}
use Rattle.row_sets.proofs.overlay.Overlay.put.Goals as goal

pub returns-clause-put : goal.returns-clause-put
returns-clause-put c =
    let ref : Ref = (c.args.table, c.args.key) in
    on_ok_then c.put_in.result (λ put. put ∙ ap (λ (own : Written). put_own own ref c.args.before c.args.after) (c.spread.ensures ∙ c.self.view_is)) c.put_in.ensures.put

pub returns-clause-own : goal.returns-clause-own
returns-clause-own c =
    let ref : Ref = (c.args.table, c.args.key) in
    on_ok_then c.put_in.result (λ put. ap own_of (put ∙ ap (λ (own : Written). put_own own ref c.args.before c.args.after) (c.spread.ensures ∙ c.self.view_is)) ∙ own_of_put c.args.self.now ref c.args.before c.args.after) c.put_in.ensures.put

pub returns-clause-found : goal.returns-clause-found
returns-clause-found c declared tables is found =
    let ref : Ref = (c.args.table, c.args.key) in
    let same = c.spread.ensures ∙ c.self.view_is in
    either_way c.put_in.result
    (λ put. subst (AreFound declared tables) (sym (put ∙ ap (λ (own : Written). put_own own ref c.args.before c.args.after) same)) (found_put declared tables c.args.self.now ref c.args.before c.args.after is found))
    (λ unchanged. subst (AreFound declared tables) (sym (unchanged ∙ same)) found)
    c.put_in.ensures.put c.put_in.ensures.unchanged

pub returns-clause-unchanged : goal.returns-clause-unchanged
returns-clause-unchanged c = on_err_then c.put_in.result (λ unchanged. unchanged ∙ c.spread.ensures ∙ c.self.view_is) c.put_in.ensures.unchanged
