use Rattle.std.proofs.Common.{rules, subst, sym, ◌++◌, ◌∙◌}
use Rattle.chain_file.specs.declared.reader.State.{State}
use Rattle.chain_file.specs.Chain.{walked}
use Rattle.chain_file.specs.Following.{KeepsChain}
use Rattle.chain_file.proofs.Forms.{form_stopped}
use Rattle.chain_file.proofs.Walking.{fed_from, form_from, gives_no_more, keeps_stopped, stays_stopped}
use Rattle.chain_file.proofs.reader.Reader.feed.Goals as goal

pub returns-in-Stopped-clause-follows : goal.returns-in-Stopped-clause-follows
returns-in-Stopped-clause-follows c = λ bytes follows. record {
  keeps = subst (λ (s : State). KeepsChain s (walked (bytes ++ c.args.piece.now)).1) c.in-Stopped.is (stays_stopped c.args.self.now.state c.in-Stopped.fault bytes c.args.piece.now c.in-Stopped.is follows.keeps);
  form = follows.form ∙ sym (form_stopped bytes c.args.piece.now c.in-Stopped.fault (keeps_stopped c.args.self.now.state c.in-Stopped.fault bytes c.in-Stopped.is follows.keeps));
}

pub returns-in-Stopped-clause-fed : goal.returns-in-Stopped-clause-fed
returns-in-Stopped-clause-fed c = λ bytes follows. gives_no_more c.args.self.now.state c.in-Stopped.fault bytes c.args.piece.now c.new.result c.in-Stopped.is follows.keeps c.new.ensures

pub returns-in_ok-read-in-Open-clause-follows : goal.returns-in_ok-read-in-Open-clause-follows
returns-in_ok-read-in-Open-clause-follows c = λ bytes follows. record {
  keeps = (fed_from c.args.self.now.state bytes c.args.piece.now c.in-Open.standing c.in-Open.held c.as_slice-held.result.now c.in_ok-read-in-Open.read c.in-Open.is c.as_slice-held.ensures follows.keeps c.in_ok-read-in-Open.ensures.reads).keeps;
  form = form_from c.args.self.now.state bytes c.args.piece.now c.in-Open.standing c.in-Open.held c.as_slice-held.result.now c.args.self.now.form c.in_ok-form-in-Open.form c.in-Open.is c.as_slice-held.ensures follows.keeps follows.form c.in_ok-form-in-Open.ensures;
}

pub returns-in_ok-read-in-Open-clause-fed : goal.returns-in_ok-read-in-Open-clause-fed
returns-in_ok-read-in-Open-clause-fed c = λ bytes follows.
    let all = fed_from c.args.self.now.state bytes c.args.piece.now c.in-Open.standing c.in-Open.held c.as_slice-held.result.now c.in_ok-read-in-Open.read c.in-Open.is c.as_slice-held.ensures follows.keeps c.in_ok-read-in-Open.ensures.reads in
    (all.given, c.fault_met-fault.ensures ∙ all.fault)

pub returns-in-Stopped-clause-stopped : goal.returns-in-Stopped-clause-stopped
returns-in-Stopped-clause-stopped c = search rules
