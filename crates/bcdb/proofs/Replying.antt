-- Replies of commands after whose answers nothing follows.
use Rattle.std.proofs.Common.{IfOk, IfSome, None, Option, Some, []}
use Rattle.std.specs.Prelude.{Err, Ok, Result}
use Rattle.bcdb.proofs.Clustered.{alone}
use Rattle.bcdb.specs.Answer.{over_settings}
use Rattle.bcdb.specs.Reply.{Means}
use Rattle.bcdb.specs.Traced.{Follows, Replies}
use Rattle.bcdb.specs.declared.reply.Reply.{Reply}
use Rattle.bcdb.specs.declared.fault.FilesFault.{FilesFault}
use Rattle.cli_words.specs.declared.settings.Settings.{Settings}
use Rattle.edge_traits.specs.Shelf.{Files}

pub reply_told : (settings : Settings) (told : Option Files) (reply : Reply) → ((files : Files) → Follows (Some settings) files []) → IfSome told (λ files. Means (over_settings (Some settings) files) reply)
    → IfSome told (λ files. Replies (Some settings) files reply)
reply_told settings None reply none means = tt
reply_told settings (Some files) reply none means = ([], (none files, alone (over_settings (Some settings) files) reply means))

pub replies_told : (settings : Settings) (told : Option Files) (result : Result Reply FilesFault) → ((files : Files) → Follows (Some settings) files [])
    → IfOk result (λ reply. IfSome told (λ files. Means (over_settings (Some settings) files) reply)) → IfOk result (λ reply. IfSome told (λ files. Replies (Some settings) files reply))
replies_told settings told (Ok reply) none means = reply_told settings told reply none means
replies_told settings told (Err fault) none means = tt
