-- Why the words that the program was started with can not be had.
use Rattle.std.specs.declared.io.ErrorKind.{ErrorKind}
use Rattle.std.specs.declared.io.ErrorKind.TheVariants.{OutOfMemory}
use Rattle.cli_words.specs.declared.settings.WordsFault.{WordsFault}
use Rattle.cli_words.specs.declared.settings.WordsFault.TheVariants as fault

-- where memory does not run out, they are no texts, and so in no language
abbrev pub words_fault : ErrorKind → WordsFault
words_fault OutOfMemory = fault.NoMemory
words_fault _ = fault.Usage
