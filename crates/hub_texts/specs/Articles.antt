-- Defines which article a content of a pallet has: that of the order line which it names.
use Rattle.std.specs.Prelude.{ℕ, Bool, List, [], filter, Option, Some, option_map}
use Rattle.std.specs.Option.{unwrap_or}
use Rattle.std.specs.Ordering.{nat_cmp, ordering_then, is_lt}
use Rattle.hub_parties.specs.KeyOrder.{bytes_cmp}
use Rattle.hub_tables.specs.Rows.{same}
use Rattle.hub_tables.specs.State.{line_among}
use Rattle.hub_tables.specs.declared.rows.ContentRow.{ContentRow}
use Rattle.hub_tables.specs.declared.rows.LineRow.{LineRow}

-- whether the line comes before the one that the content names
abbrev pub precedes_named : ContentRow → LineRow → Bool
precedes_named content row = is_lt (ordering_then (bytes_cmp row.number content.number) (nat_cmp row.line content.line))

-- the line that the content names
abbrev pub line_of_content : List LineRow → ContentRow → Option LineRow
line_of_content lines content =
    line_among (filter (λ line. same line.number content.number) lines) (Some content.line) []

-- the article of the content, or `None` if no such line is among these
abbrev pub article_among : List LineRow → ContentRow → Option (List ℕ)
article_among lines content = option_map (λ row. row.gtin) (line_of_content lines content)

-- the article of the content, or no digits if no such line is among these
abbrev pub article_in : List LineRow → ContentRow → List ℕ
article_in lines content = unwrap_or (article_among lines content) []
