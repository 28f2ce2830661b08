-- What is found of all rows.
use Rattle.std.specs.Prelude.{◌≡◌, true, false, Option}
use Rattle.hub_pieces.specs.Walk.{Told}
use Rattle.hub_sound.specs.Showing.{ShowsUnclean, ShowsUnsound}
use Rattle.hub_sound.specs.HubRules.Laws.{SoundHub}
use Rattle.hub_sound.specs.declared.finding.Finding.{Finding}
use Rattle.hub_store.specs.Clean.{are_clean}
use Rattle.hub_tables.specs.Tables.{Tables}
use Rattle.hub_verify.specs.declared.verdict.RowsVerdict.{RowsVerdict as Judged}
use Rattle.hub_verify.specs.declared.verdict.RowsVerdict.TheVariants.{Sound, Unclean, Unsound}

-- nothing was found, so this holds; or the row shows that the tables are not clean
abbrev pub ToldUnclean : (Tables → Type 0) → Tables → Option Finding → Type 0
ToldUnclean holds t = Told (holds t) (λ found. ShowsUnclean t found.kind found.key)

-- nothing was found, so this holds; or the row shows that the tables are not sound
abbrev pub ToldUnsound : (Tables → Type 0) → Tables → Option Finding → Type 0
ToldUnsound holds t = Told (holds t) (λ found. ShowsUnsound t found.kind found.key)

-- a sound start, or the row that shows it is none
abbrev pub IsVerdict : Tables → Judged → Type 0
IsVerdict t Sound = (are_clean t ≡ true) × SoundHub t
IsVerdict t (Unclean found) = (are_clean t ≡ false) × ShowsUnclean t found.kind found.key
IsVerdict t (Unsound found) = (are_clean t ≡ true) × (¬ SoundHub t) × ShowsUnsound t found.kind found.key
