-- Number 9 for every entry, or the loop along them.
use mathlib.Core.Bool.{true, false}
use mathlib.Core.Path.{◌≡◌}
use Rattle.words_pack.specs.Writer.{supported_of}
use Rattle.words_read.specs.Read.{writer_of}
use Rattle.words_read.specs.Format.{args_of}
use Rattle.frame.proofs.Fits.{seen_good}
use Rattle.words_run.proofs.Ran.{there_ninth, there_read}
use Rattle.words_run.proofs.entry.Entries.read_there.Goals as goal

pub returns-then-not-supported-clause-entries : goal.returns-then-not-supported-clause-entries
returns-then-not-supported-clause-entries c =
    let q : supported_of (writer_of (args_of c.args.format c.args.first) c.args.frame.now.width) ≡ false = cc in
    (there_ninth _ _ _ _ (seen_good c.args.frame.now) c.requires.there q c.fill.ensures.entries).0

pub returns-then-not-supported-clause-count : goal.returns-then-not-supported-clause-count
returns-then-not-supported-clause-count c =
    let q : supported_of (writer_of (args_of c.args.format c.args.first) c.args.frame.now.width) ≡ false = cc in
    (there_ninth _ _ _ _ (seen_good c.args.frame.now) c.requires.there q c.fill.ensures.entries).1

pub returns-clause-entries : goal.returns-clause-entries
returns-clause-entries c =
    let q : supported_of (writer_of (args_of c.args.format c.args.first) c.args.frame.now.width) ≡ true = cc in
    (there_read _ _ _ _ (seen_good c.args.frame.now) c.requires.there q (c.read_entries.ensures.entries, c.read_entries.ensures.count)).0

pub returns-clause-count : goal.returns-clause-count
returns-clause-count c =
    let q : supported_of (writer_of (args_of c.args.format c.args.first) c.args.frame.now.width) ≡ true = cc in
    (there_read _ _ _ _ (seen_good c.args.frame.now) c.requires.there q (c.read_entries.ensures.entries, c.read_entries.ensures.count)).1
