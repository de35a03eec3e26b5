-- The format of an index that is made so, and what one is made with.
use Rattle.index_model.specs.declared.format.Format.{Format}
use Rattle.index_model.specs.declared.layout.Layout.TheVariants.{Two}
use Rattle.index_model.specs.declared.limits.Limits.{Limits}

-- an index is made of the second layout
abbrev pub made : Limits → Format
made limits = record {
  layout = Two;
  unique = limits.unique;
  items = limits.items;
  pages = limits.pages;
  log_bytes = limits.log_bytes;
}

abbrev pub sizes_of : Format → Limits
sizes_of format = record {
  items = format.items;
  pages = format.pages;
  log_bytes = format.log_bytes;
  unique = format.unique;
}
