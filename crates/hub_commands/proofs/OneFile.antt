-- What comes of one file.
use Rattle.std.proofs.Common.{◌≡◌, ℕ, Bool, List, [], Option, Some, None, Result, Ok, Err, refl, sym, subst, inl, inr, string_bytes}
use Rattle.std.specs.Prelude.{◌≢◌, IsErr, IfOk, IfErr, IfSome}
use Rattle.std.proofs.KnownBytes.{Appends-nil}
use Rattle.std.proofs.lemmas.Bool.{false≢true}
use Rattle.edi_base.specs.declared.source.ReadFault.{ReadFault}
use Rattle.edi_base.specs.declared.source.ReadFault.TheVariants.{Read, Memory}
use Rattle.edi_envelope.specs.Opened.{opened, Opens}
use Rattle.edi_segments.specs.declared.fault.TokenFault.TheVariants as token
use Rattle.edi_envelope.specs.Gathered.{OpenFaultHasCause}
use Rattle.edi_envelope.specs.declared.fault.OpenFault.{OpenFault}
use Rattle.edi_envelope.specs.declared.fault.OpenFault.TheVariants.{Token}
use Rattle.edi_envelope.specs.declared.interchange.Interchange.{Interchange}
use Rattle.hub_requests.specs.declared.reply.Reply.{Reply}
use Rattle.hub_commands.specs.Files.{Gave, FaultComesOf, OpensSource, IsCalled, FileRead, IsUnread, HasFailed}
use Rattle.hub_commands.specs.Import.{Looked, Answered, Unread, NoMemory, ComesOf, WasGiven, ImportEnds, ImportBrokenOff}
use Rattle.hub_commands.specs.Import.{file_line}
use Rattle.hub_commands.specs.OneFile.{FileDone, Comes, ReplyComes, FaultComes}
use Rattle.hub_commands.specs.Output.{Written, Lost}
use Rattle.hub_commands.specs.declared.files.NamedFile.{NamedFile}
use Rattle.hub_commands.specs.declared.files.NextFile.{NextFile}
use Rattle.hub_commands.specs.declared.files.NextFile.TheVariants.{Named}
use Rattle.hub_commands.proofs.Output.{written_then}

pub is_called : {B : Type 0} (file : NextFile B) (named : NamedFile B) → file ≡ Named named → IsCalled file (string_bytes named.name)
is_called {B} file named e = subst (λ (f : NextFile B). IsCalled f (string_bytes named.name)) (sym e) refl

-- what comes of a file that was not read
abbrev pub of_fault : List ℕ → ReadFault → Looked
of_fault name Read = Unread name
of_fault name Memory = NoMemory (Some name)

pub fault_given : (name : List ℕ) (fault : ReadFault) → WasGiven (of_fault name fault)
fault_given name Read = tt
fault_given name Memory = tt

-- the source of an upload whose read failed
pub read_failed : {B : Type 0} (origin : B → ℕ) (failed : B → Bool) (source later : B) (upload : Result Interchange OpenFault)
    → origin later ≡ origin source
    → OpenFaultHasCause upload (failed source) (failed later)
    → upload ≡ Err (Token token.Read)
    → HasFailed origin failed source
read_failed origin failed source later upload same flag is =
    (later, same, subst (λ (u : Result Interchange OpenFault). OpenFaultHasCause u (failed source) (failed later)) is flag)

module _ {B : Type 0} (remaining : B → Option (List ℕ)) (broken : B → Type 0) where
  -- the bytes of a source that was opened
  abbrev pub bytes_of : (source : Result B ReadFault) (upload : Result Interchange OpenFault) → OpensSource remaining source upload
      → List ℕ
  bytes_of (Ok source) upload opens = opens.0
  bytes_of (Err fault) upload opens = absurd opens

  gave : (source : Result B ReadFault) (upload : Result Interchange OpenFault) (opens : OpensSource remaining source upload)
      → Gave remaining source (bytes_of source upload opens)
  gave (Ok source) upload opens = (source, refl, opens.1)
  gave (Err fault) upload opens = absurd opens

  pub of_read : (file : NextFile B) (named : NamedFile B) (upload : Result Interchange OpenFault) (reply : Reply)
      → file ≡ Named named
      → (opens : OpensSource remaining named.source upload)
      → ComesOf remaining broken file (Answered (string_bytes named.name) (bytes_of named.source upload opens) reply)
  of_read file named upload reply e opens =
      subst (λ (f : NextFile B). FileRead remaining f (string_bytes named.name) (bytes_of named.source upload opens)) (sym e)
      (refl, gave named.source upload opens)

  opens_known : (upload : Result Interchange OpenFault) (known : Option (List ℕ))
      → ((bytes : List ℕ) → known ≡ Some bytes → Opens upload (opened bytes))
      → ((bytes : List ℕ) × Opens upload (opened bytes))
      → (bytes : List ℕ) × IfSome known (λ known. bytes ≡ known) × Opens upload (opened bytes)
  opens_known upload None opens some = (some.0, tt, some.1)
  opens_known upload (Some bytes) opens some = (bytes, refl, opens bytes refl)

  pub opens_source : (given : Result B ReadFault) (source : B) (upload : Result Interchange OpenFault)
      → given ≡ Ok source
      → ((bytes : List ℕ) → remaining source ≡ Some bytes → Opens upload (opened bytes))
      → ((bytes : List ℕ) × Opens upload (opened bytes))
      → OpensSource remaining given upload
  opens_source given source upload is opens some =
      subst (λ (given : Result B ReadFault). OpensSource remaining given upload) (sym is)
      (opens_known upload (remaining source) opens some)

  module _ (given : Result B ReadFault) (source : B) (upload : Result Interchange OpenFault) (is : given ≡ Ok source)
      (opens : OpensSource remaining given upload) (failed : upload ≡ Err (Token token.Read) → broken source) where
    pub read_opens : (r : Result (Result Interchange OpenFault) ReadFault)
        → IfOk r (λ read. (read ≡ upload) × (read ≢ Err (Token token.Read)))
        → IfOk r (λ upload. OpensSource remaining given upload)
    read_opens (Ok read) ok = subst (λ (u : Result Interchange OpenFault). OpensSource remaining given u) (sym ok.0) opens
    read_opens (Err fault) ok = tt

    pub unread_comes : (r : Result (Result Interchange OpenFault) ReadFault)
        → IfErr r (λ fault. (fault ≡ Read) × (upload ≡ Err (Token token.Read)))
        → IfErr r (FaultComesOf broken given)
    unread_comes (Ok read) err = tt
    unread_comes (Err fault) err =
        subst (λ (f : ReadFault). FaultComesOf broken given f) (sym err.0)
        (subst (λ (given : Result B ReadFault). FaultComesOf broken given Read) (sym is) (failed err.1))

  pub did_upload : (Steps : List ℕ → Reply → Type 0) (Stays : Type 0) (name : List ℕ) (reply : Reply) (source : Result B ReadFault)
      (upload : Result Interchange OpenFault)
      → ((bytes : List ℕ) → Opens upload (opened bytes) → Steps bytes reply)
      → (opens : OpensSource remaining source upload)
      → FileDone Steps Stays (Answered name (bytes_of source upload opens) reply)
  did_upload Steps Stays name reply (Ok source) upload step opens = step opens.0 opens.2
  did_upload Steps Stays name reply (Err fault) upload step opens = absurd opens

  pub of_unread : (file : NextFile B) (named : NamedFile B) (fault : ReadFault) → file ≡ Named named
      → FaultComesOf broken named.source fault
      → ComesOf remaining broken file (of_fault (string_bytes named.name) fault)
  of_unread file named Read e comes =
      subst (λ (f : NextFile B). IsUnread broken f (string_bytes named.name)) (sym e) (refl, comes)
  of_unread file named Memory e comes = is_called file named e

  pub nothing_done : (Steps : List ℕ → Reply → Type 0) {Stays : Type 0} (name : List ℕ) (fault : ReadFault) → Stays
      → FileDone Steps Stays (of_fault name fault)
  nothing_done Steps name Read stays = stays
  nothing_done Steps name Memory stays = stays

-- the import ends where no status is answered
pub ended : {E : Type 0} {old new : Option (List ℕ)} {failed after : Bool} (one : Looked) (r : Result ℕ E) → IsErr r
    → ImportEnds old new failed after [] one
    → Comes old new failed after one r
ended one (Ok status) e ends = absurd (false≢true e)
ended one (Err fault) e ends = ends

-- a write failed where nothing had been written of the file
pub lost_at_once : {old new : Option (List ℕ)} {after : Bool} {text : List ℕ} → Lost old new after text
    → ImportBrokenOff old new after [] text
lost_at_once {old} lost = record { between = old; written = Appends-nil old; lost = lost }

-- after the line of a file its reply is printed
pub answered : {E : Type 0} {old between : Option (List ℕ)} {failed middle : Bool} (new : Option (List ℕ)) (after : Bool)
    (name bytes : List ℕ) (reply : Reply) (r : Result ℕ E)
    → Written old between failed middle (file_line name)
    → ReplyComes between new middle after reply r
    → Comes old new failed after (Answered name bytes reply) r
answered new after name bytes reply (Ok status) line comes = (comes.0, written_then line comes.1, comes.2)
answered new after name bytes reply (Err fault) line (inl comes) = inl (comes.0, written_then line comes.1)
answered {E} {old} {between} new after name bytes reply (Err fault) line (inr lost) =
    inr (record { between = between; written = line.bytes; lost = lost })

-- after the line of a file it is printed why its bytes are not known
pub unread : {E : Type 0} {old between : Option (List ℕ)} {failed middle : Bool} (new : Option (List ℕ)) (after : Bool)
    (name : List ℕ) (fault : ReadFault) (r : Result ℕ E)
    → Written old between failed middle (file_line name)
    → FaultComes between new middle after fault r
    → Comes old new failed after (of_fault name fault) r
unread new after name Read (Ok status) line comes = (tt, written_then line comes.0, comes.1)
unread {E} {old} {between} new after name Read (Err ended) line lost =
    inr (record { between = between; written = line.bytes; lost = lost })
unread new after name Memory (Ok status) line comes = absurd comes
unread new after name Memory (Err ended) line (inl written) = inl (tt, written_then line written)
unread {E} {old} {between} new after name Memory (Err ended) line (inr lost) =
    inr (record { between = between; written = line.bytes; lost = lost })
