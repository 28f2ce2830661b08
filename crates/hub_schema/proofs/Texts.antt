-- Shows what the texts that make the tables stand for.
use Rattle.std.proofs.Common.{◌≡◌, ℕ, pos, List, [], ◌∷◌, codes, refl}
use Rattle.sqlite.specs.Listing.{understood}
use Rattle.sqlite.specs.Command.TheVariants.{Insert, Update}
use Rattle.sqlite.specs.Source.TheVariants.{Values}
use Rattle.sqlite.specs.Term.{Term, lit, col}
use Rattle.sqlite.specs.declared.types.Value.TheVariants.{Null, Int}
use Rattle.sqlite.proofs.Callers.{IsPlain, command_of}
use Rattle.sqlite_tied.specs.Compute.{everything}
use Rattle.sql_rows.proofs.Updates.{one_table}
use Rattle.hub_schema.specs.Schema.{hub_schema}

abbrev pub put_number : List ℕ
put_number = codes "INSERT INTO schema (number) VALUES (3)"

pub put_number_is : command_of (understood hub_schema put_number) ≡ Insert 0 (Values (lit Null ∷ lit (Int (pos 3))
    ∷ []) 2)
unfolding understood everything
put_number_is = refl

pub put_number_plain : IsPlain (understood hub_schema put_number)
unfolding understood everything
put_number_plain = (refl, refl)

abbrev pub set_number : List ℕ
set_number = codes "UPDATE schema SET number = 3"

-- the row's number, twice, and the schema's new number
abbrev pub set_number_shows : List Term
set_number_shows = col 1 0 ∷ col 1 0 ∷ lit (Int (pos 3)) ∷ []

pub set_number_is : command_of (understood hub_schema set_number) ≡ Update 0 (record {
  lets = [];
  body = one_table 0 (λ _. refl) [] set_number_shows [];
})
unfolding understood everything
set_number_is = refl

pub set_number_plain : IsPlain (understood hub_schema set_number)
unfolding understood everything
set_number_plain = (refl, refl)
