-- Files that come one after another, and what is read of one.
use Rattle.std.specs.Prelude.{◌≡◌, ◌⊎◌, ⊤, ℕ, Bool, true, ◌<◌, List, [], ◌∷◌, string_bytes, Option, Some, None}
use Rattle.std.specs.Prelude.{Result, Ok, Err, IfSome}
use Rattle.edi_base.specs.declared.source.ReadFault.{ReadFault}
use Rattle.edi_base.specs.declared.source.ReadFault.TheVariants.{Read, Memory}
use Rattle.edi_envelope.specs.Opened.{opened, Opens}
use Rattle.edi_envelope.specs.declared.fault.OpenFault.{OpenFault}
use Rattle.edi_envelope.specs.declared.interchange.Interchange.{Interchange}
use Rattle.hub_commands.specs.declared.files.NextFile.{NextFile}
use Rattle.hub_commands.specs.declared.files.NextFile.TheVariants.{Named, Unnamed}

-- there is a source, and if it is known what it will give, it is these bytes
abbrev pub Gave : {B : Type 0} → (B → Option (List ℕ)) → Result B ReadFault → List ℕ → Type 0
Gave {B} remaining source bytes = (from : B) × (source ≡ Ok from) × IfSome (remaining from) (λ known. bytes ≡ known)

-- a read of a source failed: it is that source still, and its flag is up
abbrev pub HasFailed : {B : Type 0} → (B → ℕ) → (B → Bool) → B → Type 0
HasFailed {B} origin failed source = (later : B) × (origin later ≡ origin source) × (failed later ≡ true)

-- why the bytes of a source are not known: it could not be opened, a read of it failed, or memory gave out
abbrev pub FaultComesOf : {B : Type 0} → (B → Type 0) → Result B ReadFault → ReadFault → Type 0
FaultComesOf broken (Err why) fault = fault ≡ why
FaultComesOf broken (Ok source) Read = broken source
FaultComesOf broken (Ok source) Memory = ⊤

-- what an upload is opened as whose bytes are read from a source: those that it is known to give, else some
abbrev pub OpensSource : {B : Type 0} → (B → Option (List ℕ)) → Result B ReadFault → Result Interchange OpenFault
    → Type 0
OpensSource remaining (Ok source) upload =
    (bytes : List ℕ) × IfSome (remaining source) (λ known. bytes ≡ known) × Opens upload (opened bytes)
OpensSource remaining (Err fault) upload = ⊥

-- the file has this name
abbrev pub IsCalled : {B : Type 0} → NextFile B → List ℕ → Type 0
IsCalled (Named file) name = string_bytes file.name ≡ name
IsCalled Unnamed name = ⊥

-- the file has this name, and a source of these bytes
abbrev pub FileRead : {B : Type 0} → (B → Option (List ℕ)) → NextFile B → List ℕ → List ℕ → Type 0
FileRead remaining (Named file) name bytes = (string_bytes file.name ≡ name) × Gave remaining file.source bytes
FileRead remaining Unnamed name bytes = ⊥

-- the file has this name, and could not be opened, or a read of its source failed
abbrev pub IsUnread : {B : Type 0} → (B → Type 0) → NextFile B → List ℕ → Type 0
IsUnread broken (Named file) name = (string_bytes file.name ≡ name) × FaultComesOf broken file.source Read
IsUnread broken Unnamed name = ⊥

-- a file is given as it is; its source is not if memory runs out for it
abbrev pub GivenAs : {B : Type 0} → NextFile B → NextFile B → Type 0
GivenAs (Named file) (Named given) =
    (string_bytes given.name ≡ string_bytes file.name)
    × ((given.source ≡ Err Memory) ⊎ (given.source ≡ file.source))
GivenAs Unnamed Unnamed = ⊤
GivenAs (Named file) Unnamed = ⊥
GivenAs Unnamed (Named given) = ⊥

-- What is given of files that still come, if these are known: the first of them, or none at their end, and then none
-- come. If memory runs out before a name is known, there is such a file, and it still comes.
abbrev pub GivesFile : {B E : Type 0} → Option (List (NextFile B)) → Option (List (NextFile B))
    → Result (Option (NextFile B)) E → Type 0
GivesFile {B} known rest (Ok (Some given)) =
    IfSome known (λ files. (file : NextFile B) × (others : List (NextFile B)) × (files ≡ file ∷ others)
    × (rest ≡ Some others) × GivenAs file given)
GivesFile known rest (Ok None) = IfSome known (λ files. (files ≡ []) × (rest ≡ Some []))
GivesFile {B} known rest (Err fault) =
    (rest ≡ known)
    × IfSome known (λ files. (file : NextFile B) × (others : List (NextFile B)) × (files ≡ file ∷ others))

-- at most this many files still come, and fewer after each that is given
abbrev pub GoesDown : {B E : Type 0} → ℕ → ℕ → Result (Option (NextFile B)) E → Type 0
GoesDown old new (Ok (Some given)) = new < old
GoesDown old new (Ok None) = ⊤
GoesDown old new (Err fault) = ⊤
