-- How a call ends, by its reply.
use Rattle.std.proofs.Common.{IfSome, List, None, Option, Some, [], append-nil, inl, inr, refl, subst, sym, ◌⊎◌, ℕ, ◌≡◌}
use Rattle.edge_traits.proofs.Fronts.{none_front, whole_is_front}
use Rattle.edge_traits.specs.Shelf.{Files}
use Rattle.edge_traits.specs.Sink.{appended}
use Rattle.bcdb.specs.Answer.{Ends, Writes, over_settings, usage_refused}
use Rattle.bcdb.specs.ProgramAnswer.{ProgramAnswer, says}
use Rattle.bcdb.specs.Reply.{Means}
use Rattle.bcdb.specs.Traced.{EndsTraced, Replies, followed_by}
use Rattle.bcdb.specs.declared.reply.Reply.{Reply}
use Rattle.bcdb.specs.declared.status.Status.TheVariants.{AppRefused, ArrivalRefused, ChainRefused, DigestRefused, Done, NoMemory, OrderRefused, ProofRefused, QueryRefused, ReadFault, ScheduleRefused, Usage, WriteFault}
use Rattle.bcdb.specs.declared.status.Status.{Status}
use Rattle.cli_words.specs.declared.settings.Settings.{Settings}

pub writes_whole : (meant : ProgramAnswer) (status : Status) (before now : Option (List ℕ)) → status ≡ meant.status → now ≡ appended before meant.bytes → Writes meant status before now
writes_whole meant Done before now same wrote = (same, wrote)
writes_whole meant Usage before now same wrote = (same, wrote)
writes_whole meant ReadFault before now same wrote = (same, wrote)
writes_whole meant AppRefused before now same wrote = (same, wrote)
writes_whole meant ChainRefused before now same wrote = (same, wrote)
writes_whole meant ArrivalRefused before now same wrote = (same, wrote)
writes_whole meant ScheduleRefused before now same wrote = (same, wrote)
writes_whole meant QueryRefused before now same wrote = (same, wrote)
writes_whole meant OrderRefused before now same wrote = (same, wrote)
writes_whole meant DigestRefused before now same wrote = (same, wrote)
writes_whole meant ProofRefused before now same wrote = (same, wrote)
writes_whole meant NoMemory before now same wrote = (same, wrote)
writes_whole meant WriteFault before now same wrote = whole_is_front before now meant.bytes wrote

-- what is written ends so
pub ends_written : (meant : ProgramAnswer) (status : Status) (before now : Option (List ℕ)) → Writes meant status before now → Ends meant status before now
ends_written meant Done before now wrote = wrote
ends_written meant Usage before now wrote = wrote
ends_written meant ReadFault before now wrote = wrote
ends_written meant AppRefused before now wrote = wrote
ends_written meant ChainRefused before now wrote = wrote
ends_written meant ArrivalRefused before now wrote = wrote
ends_written meant ScheduleRefused before now wrote = wrote
ends_written meant QueryRefused before now wrote = wrote
ends_written meant OrderRefused before now wrote = wrote
ends_written meant DigestRefused before now wrote = wrote
ends_written meant ProofRefused before now wrote = wrote
ends_written meant WriteFault before now wrote = wrote
ends_written meant NoMemory before now wrote = whole_is_front before now meant.bytes wrote.1

-- what is written of a reply is what the reply means
writes_means : (meant : ProgramAnswer) (reply : Reply) (status : Status) (before now : Option (List ℕ)) → Means meant reply
    → Writes (says reply.status reply.bytes) status before now → Writes meant status before now
writes_means meant reply status before now means writes =
    subst (λ bytes. Writes (says meant.status bytes) status before now) means.bytes
    (subst (λ s. Writes (says s reply.bytes) status before now) means.status writes)

pub ends_traced : (settings : Option Settings) (files : Files) (reply : Reply) (status : Status) (before now : Option (List ℕ)) → Replies settings files reply
    → Writes (says reply.status reply.bytes) status before now → EndsTraced settings files status before now
ends_traced settings files reply status before now replies writes =
    inr (replies.0, (replies.1.0, writes_means (followed_by replies.0 (over_settings settings files)) reply status before now replies.1.1 writes))

-- over a shelf that tells its files
pub told_traced : (settings : Option Settings) (told : Option Files) (reply : Reply) (status : Status) (before now : Option (List ℕ)) (same : Type 0) (other : Files → Type 0)
    → IfSome told (λ files. Replies settings files reply) → Writes (says reply.status reply.bytes) status before now → same
    → IfSome told (λ files. (EndsTraced settings files status before now × same) ⊎ other files)
told_traced settings None reply status before now same other replies writes is = tt
told_traced settings (Some files) reply status before now same other replies writes is = inl (ends_traced settings files reply status before now replies writes, is)

-- where nothing was written since memory ran out
pub ends_short : (settings : Option Settings) (files : Files) (before now : Option (List ℕ)) → now ≡ before → EndsTraced settings files NoMemory before now
ends_short settings files before now same = inl (refl, none_front before now (over_settings settings files).bytes same)

pub told_short : (settings : Option Settings) (told : Option Files) (before now : Option (List ℕ)) (same : Type 0) (other : Files → Type 0) → now ≡ before → same
    → IfSome told (λ files. (EndsTraced settings files NoMemory before now × same) ⊎ other files)
told_short settings None before now same other kept is = tt
told_short settings (Some files) before now same other kept is = inl (ends_short settings files before now kept, is)

-- and where the words are refused
pub ends_refused : (settings : Option Settings) (files : Files) (status : Status) (before now : Option (List ℕ)) → settings ≡ None → Writes usage_refused status before now
    → EndsTraced settings files status before now
ends_refused settings files status before now none writes =
    subst (λ (found : Option Settings). EndsTraced found files status before now) (sym none)
    (inr ([], (refl, subst (λ bytes. Writes (says usage_refused.status bytes) status before now) (sym (append-nil usage_refused.bytes)) writes)))
