-- The texts that select the lowest value above a parameter.
use Rattle.std.specs.Prelude.{ℕ, List, codes, ⊤}
use Rattle.hub_tables.specs.Tables.{Tables}
use Rattle.hub_pieces.specs.declared.piece_kind.PieceKind.{PieceKind}
use Rattle.hub_pieces.specs.declared.piece_kind.PieceKind.TheVariants.{Order, Line, Advice, Pallet, Content, Receipt, Remembered, Mail}

-- whatever the tables hold
abbrev pub Any : Tables → Type 0
Any t = ⊤

abbrev pub next_text : PieceKind → List ℕ
next_text Order = codes "SELECT supplier FROM \"order\" WHERE supplier > ?1 ORDER BY supplier LIMIT 1"
next_text Line = codes "SELECT supplier FROM line WHERE supplier > ?1 ORDER BY supplier LIMIT 1"
next_text Advice = codes "SELECT supplier FROM advice WHERE supplier > ?1 ORDER BY supplier LIMIT 1"
next_text Pallet = codes "SELECT supplier FROM pallet WHERE supplier > ?1 ORDER BY supplier LIMIT 1"
next_text Content = codes "SELECT sscc FROM content WHERE sscc > ?1 ORDER BY sscc LIMIT 1"
next_text Receipt = codes "SELECT sscc FROM receipt WHERE sscc > ?1 ORDER BY sscc LIMIT 1"
next_text Remembered = codes "SELECT supplier FROM remembered WHERE supplier > ?1 ORDER BY supplier LIMIT 1"
next_text Mail = codes "SELECT supplier FROM mail WHERE supplier > ?1 ORDER BY supplier LIMIT 1"
