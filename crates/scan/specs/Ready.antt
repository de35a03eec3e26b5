-- The entries that a scan holds ready.
use Rattle.std.specs.Prelude.{List, drop}
use Rattle.index_model.specs.declared.entry.Entry.{Entry}
use Rattle.scan.specs.declared.steps.ScanOp.{ScanOp}

-- the entries that are ready to be given
abbrev pub waiting : ScanOp → List Entry
waiting op = drop op.given op.copied.items
