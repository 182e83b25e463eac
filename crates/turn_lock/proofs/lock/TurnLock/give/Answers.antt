use Rattle.std.proofs.Common.{rules, ◌≡◌, ℕ, sym, ap, subst, ◌∙◌, [], ◌∷◌, ◌++◌, All, Some}
use Rattle.std.specs.Prelude.{is_some}
use Rattle.std.proofs.lemmas.List.{append-nil}
use Rattle.atomic_table.specs.Table.{rest}
use Rattle.rel_base.proofs.Stories.{entries_grown}
use Rattle.rel_base.specs.Stories.{entries_of}
use Rattle.turn_lock.specs.Standing.{slots_of}
use Rattle.turn_lock.proofs.Bases.{some_base, same_base}
use Rattle.turn_lock.proofs.Gives.{gives_all, ahead_grown}
use Rattle.turn_lock.proofs.Moves.{publishes, puts_back, leaves}
use Rattle.turn_lock.proofs.lock.TurnLock.give.Goals as goal

pub store-requires : goal.store-requires
store-requires g c =
    let p = c.args.pass.now.stands in
    let view : c.exchange.new.seat.me.0 ≡ c.args.pass.now.seat.me.0 = ap (λ m. m.0) c.exchange.ensures.3 in
    let hand : c.exchange.new.seat.me.1 ≡ (0, Some c.args.state) ∷ [] = ap (λ m. m.1) c.exchange.ensures.3 ∙ ap (λ l. (0, Some c.args.state) ∷ rest l) (p.slots ∙ ap slots_of c.requires.turn) in
    let news = c.requires.story.0 in (
      search rules,
      search rules,
      publishes _ _ _ _ _ _ c.args.state news _
          (ap (λ v. v.live) view ∙ p.live)
          (ap (λ v. v.stage) view ∙ c.requires.turn)
          hand
          (c.requires.story.1 ∙ ap (λ v. v.seen ++ news) (sym view))
          (subst (λ (i : ℕ). All (λ e. g.S.Storied.actor e ≡ i) news) (sym (ap (λ v. v.number) view ∙ p.number_is)) c.requires.story.2)
          (search rules),
    )

pub load-requires : goal.load-requires
load-requires g c =
    let p = c.args.pass.now.stands in
    let view : c.exchange.new.seat.me.0 ≡ c.args.pass.now.seat.me.0 = ap (λ m. m.0) c.exchange.ensures.3 in
    let hand : c.exchange.new.seat.me.1 ≡ (0, Some c.args.state) ∷ [] = ap (λ m. m.1) c.exchange.ensures.3 ∙ ap (λ l. (0, Some c.args.state) ∷ rest l) (p.slots ∙ ap slots_of c.requires.turn) in
    let news = c.requires.story.0 in
    let told = c.store.ensures.2 c.args.state news hand (c.requires.story.1 ∙ ap (λ v. v.seen ++ news) (sym view)) in (
      search rules,
      search rules,
      puts_back _ _ _ _ _ _ c.args.state
          (ap (λ v. v.live) told.1 ∙ (ap (λ v. v.live) view ∙ p.live))
          (ap (λ v. v.stage) told.1 ∙ (ap (λ v. v.stage) view ∙ c.requires.turn))
          (told.0 ∙ hand)
          (sym (ap (λ v. v.seen) told.1))
          (ap (λ v. v.base) told.1 ∙ (ap (λ v. v.base) view ∙ (some_base _ p.based ∙ ap Some (sym c.requires.base)))),
    )

pub swap-ended-requires : goal.swap-ended-requires
swap-ended-requires g c =
    let p = c.args.pass.now.stands in
    let view : c.exchange.new.seat.me.0 ≡ c.args.pass.now.seat.me.0 = ap (λ m. m.0) c.exchange.ensures.3 in
    let hand : c.exchange.new.seat.me.1 ≡ (0, Some c.args.state) ∷ [] = ap (λ m. m.1) c.exchange.ensures.3 ∙ ap (λ l. (0, Some c.args.state) ∷ rest l) (p.slots ∙ ap slots_of c.requires.turn) in
    let news = c.requires.story.0 in
    let told = c.store.ensures.2 c.args.state news hand (c.requires.story.1 ∙ ap (λ v. v.seen ++ news) (sym view)) in
    let put = c.load.ensures.2.view in (
      search rules,
      search rules,
      leaves _ _ _ _ _ _ (ap (λ v. v.live) put ∙ (ap (λ v. v.live) told.1 ∙ (ap (λ v. v.live) view ∙ p.live))) (ap (λ v. v.stage) put),
    )

pub invariant_of-pass : goal.invariant_of-pass
invariant_of-pass g c =
    let p = c.args.pass.now.stands in
    let news = c.requires.story.0 in
    let all = gives_all g.S.Storied.story c.args.pass.now.seat.me c.exchange.new.seat.me c.store.new.seat.me c.load.new.seat.me c.swap-ended.new.seat.me c.args.state news p.slots c.requires.turn c.exchange.ensures.3 c.requires.story.1 c.store.ensures.2 c.load.ensures.2 c.swap-ended.ensures.2 in
    let grown = entries_grown g.S.Storied.actor c.args.pass.now.number c.args.pass.now.seat.me.0.seen news c.args.pass.now.seat.me.0.mine (g.S.Storied.story c.args.state) c.requires.story.1 c.requires.story.2 p.own in record {
      stands = record {
        slots = all.0 ∙ ap slots_of (sym (ap (λ v. v.stage) all.1));
        number_is = ap (λ v. v.number) all.1 ∙ p.number_is;
        made_is = ap (λ v. v.made) all.1 ∙ p.made_is;
        based = ap (λ v. is_some v.base) all.1 ∙ p.based;
        live = ap (λ v. v.live) all.1 ∙ p.live;
        own = ap (entries_of g.S.Storied.actor c.args.pass.now.number) (ap (λ v. v.seen) all.1) ∙ (grown ∙ sym (ap (λ v. v.mine) all.1));
        untold = ap (λ v. v.told) all.1 ∙ p.untold;
        settled = ap (λ v. v.joining) all.1 ∙ p.settled;
        ahead = λ first. ahead_grown g.S.Storied.actor c.args.pass.now.number c.args.pass.now.made c.args.pass.now.seat.me.0.seen news _ first (ap (λ v. v.seen) all.1 ∙ c.requires.story.1) c.requires.story.2 (p.ahead first);
      };
    }

pub returns-clause-same : goal.returns-clause-same
returns-clause-same g c =
    let p = c.args.pass.now.stands in
    let news = c.requires.story.0 in
    let all = gives_all g.S.Storied.story c.args.pass.now.seat.me c.exchange.new.seat.me c.store.new.seat.me c.load.new.seat.me c.swap-ended.new.seat.me c.args.state news p.slots c.requires.turn c.exchange.ensures.3 c.requires.story.1 c.store.ensures.2 c.load.ensures.2 c.swap-ended.ensures.2 in record {
      same_lock = c.swap-ended.ensures.0 ∙ (c.load.ensures.0 ∙ (c.store.ensures.0 ∙ c.exchange.ensures.0));
      same_number = search rules;
      same_base = same_base _ _ _ _ (ap (λ v. v.base) all.1);
      same_made = ap (λ v. v.made) all.1;
      same_left = ap (λ v. v.left) all.1;
      same_joined = ap (λ v. v.joined) all.1;
    }

pub returns-clause-seen : goal.returns-clause-seen
returns-clause-seen g c =
    let p = c.args.pass.now.stands in
    let all = gives_all g.S.Storied.story c.args.pass.now.seat.me c.exchange.new.seat.me c.store.new.seat.me c.load.new.seat.me c.swap-ended.new.seat.me c.args.state c.requires.story.0 p.slots c.requires.turn c.exchange.ensures.3 c.requires.story.1 c.store.ensures.2 c.load.ensures.2 c.swap-ended.ensures.2 in
    ap (λ v. v.seen) all.1

pub returns-clause-mine : goal.returns-clause-mine
returns-clause-mine g c = λ news grown.
    let p = c.args.pass.now.stands in
    let all = gives_all g.S.Storied.story c.args.pass.now.seat.me c.exchange.new.seat.me c.store.new.seat.me c.load.new.seat.me c.swap-ended.new.seat.me c.args.state news p.slots c.requires.turn c.exchange.ensures.3 grown c.store.ensures.2 c.load.ensures.2 c.swap-ended.ensures.2 in
    ap (λ v. v.mine) all.1

pub returns-clause-no_news : goal.returns-clause-no_news
returns-clause-no_news g c = λ same.
    let p = c.args.pass.now.stands in
    let all = gives_all g.S.Storied.story c.args.pass.now.seat.me c.exchange.new.seat.me c.store.new.seat.me c.load.new.seat.me c.swap-ended.new.seat.me c.args.state [] p.slots c.requires.turn c.exchange.ensures.3 (same ∙ sym (append-nil _)) c.store.ensures.2 c.load.ensures.2 c.swap-ended.ensures.2 in
    ap (λ v. v.mine) all.1 ∙ append-nil _
