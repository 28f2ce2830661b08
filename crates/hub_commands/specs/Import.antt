-- An import of files: what comes of each, what is asked of the hub, what is printed, and the exit status.
use Rattle.std.specs.Prelude.{◌≡◌, ◌≢◌, ◌⊎◌, ⊤, ℕ, max, Bool, List, [], ◌∷◌, ◌++◌, codes, Option, Some, None}
use Rattle.std.specs.Prelude.{IfSome, flat_map, fold}
use Rattle.std.specs.List.{AllByRecursion}
use Rattle.std.specs.Io.KnownBytes.{Appends}
use Rattle.hub_core.specs.HubLaw.Replies.{stopped_line}
use Rattle.hub_requests.specs.declared.reply.Outcome.TheVariants.{Stopped}
use Rattle.hub_requests.specs.declared.reply.Reply.{Reply}
use Rattle.hub_requests.specs.declared.request.Input.{Input}
use Rattle.hub_commands.specs.Files.{IsCalled, FileRead, IsUnread}
use Rattle.hub_commands.specs.Output.{Written, Lost}
use Rattle.hub_commands.specs.Replies.{status_of}
use Rattle.hub_commands.specs.declared.files.NextFile.{NextFile}
use Rattle.hub_commands.specs.declared.files.NextFile.TheVariants as files

-- What becomes of a file. Answered: it has this name and these bytes, which are those that its source was known to
-- give, if these are known, and this is the reply to their upload. Unread: it cannot be read. Unnamed: its name cannot
-- be printed. NoMemory: memory ran out for its source, or before its name was known. Unprinted: its line could not be
-- written, and it was not uploaded.
pub data Looked : Type 0 where
  Answered : List ℕ → List ℕ → Reply → Looked
  Unread : List ℕ → Looked
  Unnamed : Looked
  NoMemory : Option (List ℕ) → Looked
  Unprinted : List ℕ → Looked

-- that may come of the file
abbrev pub ComesOf : {B : Type 0} → (B → Option (List ℕ)) → (B → Type 0) → NextFile B → Looked → Type 0
ComesOf remaining broken file (Answered name bytes reply) = FileRead remaining file name bytes
ComesOf remaining broken file (Unread name) = IsUnread broken file name
ComesOf remaining broken file Unnamed = file ≡ files.Unnamed
ComesOf remaining broken file (NoMemory name) = IfSome name (IsCalled file)
ComesOf remaining broken file (Unprinted name) = IsCalled file name

-- each result is that of one of the first files, in order, and the rest still come
abbrev pub TakesFiles : {B : Type 0} → (B → Option (List ℕ)) → (B → Type 0) → List (NextFile B) → List Looked
    → List (NextFile B) → Type 0
TakesFiles remaining broken files [] rest = files ≡ rest
TakesFiles remaining broken [] (one ∷ looked) rest = ⊥
TakesFiles remaining broken (file ∷ files) (one ∷ looked) rest =
    ComesOf remaining broken file one × TakesFiles remaining broken files looked rest

-- it was given: memory did not give out before its name was known
abbrev pub WasGiven : Looked → Type 0
WasGiven (Answered name bytes reply) = ⊤
WasGiven (Unread name) = ⊤
WasGiven Unnamed = ⊤
WasGiven (NoMemory (Some name)) = ⊤
WasGiven (NoMemory None) = ⊥
WasGiven (Unprinted name) = ⊤

-- What still comes after the last that was looked at: the rest of the files, and no others; and before these the last
-- itself, if memory ran out before its name was known.
abbrev pub StillCome : {B : Type 0} → (B → Option (List ℕ)) → (B → Type 0) → List (NextFile B) → List Looked → Looked
    → List (NextFile B) → Option (List (NextFile B)) → Type 0
StillCome remaining broken files earlier (Answered name bytes reply) rest left = left ≡ Some rest
StillCome remaining broken files earlier (Unread name) rest left = left ≡ Some rest
StillCome remaining broken files earlier Unnamed rest left = left ≡ Some rest
StillCome remaining broken files earlier (NoMemory (Some name)) rest left = left ≡ Some rest
StillCome {B} remaining broken files earlier (NoMemory None) rest left =
    (file : NextFile B) × TakesFiles remaining broken files earlier (file ∷ rest) × (left ≡ Some (file ∷ rest))
StillCome remaining broken files earlier (Unprinted name) rest left = left ≡ Some rest

-- the import goes on after it
abbrev pub ImportGoesOn : Looked → Type 0
ImportGoesOn (Answered name bytes reply) = reply.outcome ≢ Stopped
ImportGoesOn (Unread name) = ⊤
ImportGoesOn Unnamed = ⊤
ImportGoesOn (NoMemory name) = ⊥
ImportGoesOn (Unprinted name) = ⊥

-- the import stops after it
abbrev pub ImportStops : Looked → Type 0
ImportStops (Answered name bytes reply) = reply.outcome ≡ Stopped
ImportStops (Unread name) = ⊥
ImportStops Unnamed = ⊥
ImportStops (NoMemory name) = ⊤
ImportStops (Unprinted name) = ⊥

-- what is asked of the hub, if an upload of some bytes is asked so
abbrev pub upload_of : (List ℕ → Input) → Looked → List Input
upload_of asked (Answered name bytes reply) = asked bytes ∷ []
upload_of asked (Unread name) = []
upload_of asked Unnamed = []
upload_of asked (NoMemory name) = []
upload_of asked (Unprinted name) = []

abbrev pub reply_of : Looked → List Reply
reply_of (Answered name bytes reply) = reply ∷ []
reply_of (Unread name) = []
reply_of Unnamed = []
reply_of (NoMemory name) = []
reply_of (Unprinted name) = []

-- the line of a file
abbrev pub file_line : List ℕ → List ℕ
file_line name = codes "file " ++ (name ++ codes "\n")

-- in place of the reply, if there is nothing to upload
abbrev pub unread_line : List ℕ
unread_line = codes "fault\n"

-- what is printed of it before it is uploaded, and then
abbrev pub line_of : Looked → List ℕ
line_of (Answered name bytes reply) = file_line name
line_of (Unread name) = file_line name
line_of Unnamed = []
line_of (NoMemory (Some name)) = file_line name
line_of (NoMemory None) = []
line_of (Unprinted name) = []

abbrev pub words_of : Looked → List ℕ
words_of (Answered name bytes reply) = reply.body
words_of (Unread name) = unread_line
words_of Unnamed = unread_line
words_of (NoMemory name) = stopped_line
words_of (Unprinted name) = file_line name

abbrev pub text_of : Looked → List ℕ
text_of one = line_of one ++ words_of one

-- its exit status
abbrev pub file_status : Looked → ℕ
file_status (Answered name bytes reply) = status_of reply
file_status (Unread name) = 3
file_status Unnamed = 3
file_status (NoMemory name) = 3
file_status (Unprinted name) = 3

-- what all that were looked at have printed
abbrev pub uploads : (List ℕ → Input) → List Looked → List Input
uploads asked = flat_map (upload_of asked)

abbrev pub replies : List Looked → List Reply
replies = flat_map reply_of

abbrev pub import_text : List Looked → List ℕ
import_text = flat_map text_of

-- the greatest status
abbrev pub greatest : List Looked → ℕ
greatest looked = fold (λ status one. max status (file_status one)) 0 looked

-- some bytes were written, and then a prefix of a text, since a write failed
pub record ImportBrokenOff (old new : Option (List ℕ)) (after : Bool) (start text : List ℕ) : Type 0 where
  pub between : Option (List ℕ)
  pub written : Appends old between start
  pub lost : Lost between new after text

-- The import ends at the last that was looked at: it stops there, and all of it is written; or a write failed. What was
-- written before comes first.
abbrev pub ImportEnds : Option (List ℕ) → Option (List ℕ) → Bool → Bool → List ℕ → Looked → Type 0
ImportEnds old new failed after before last =
    (ImportStops last × Written old new failed after (before ++ text_of last))
    ⊎ ImportBrokenOff old new after (before ++ line_of last) (words_of last)

-- all known files were looked at, and none come any more
pub record WholeImport {B : Type 0} (NoneCome : Type 0) (old new : Option (List ℕ)) (failed after : Bool)
    (looked : List Looked) (rest : List (NextFile B)) (status : ℕ) : Type 0 where
  pub none_left : rest ≡ []
  pub none_come : NoneCome
  pub go_on : AllByRecursion ImportGoesOn looked
  pub written : Written old new failed after (import_text looked)
  pub status_is : status ≡ greatest looked

-- the import ended before, and these still come after those that were looked at
pub record Early (Still : List Looked → Looked → Type 0) (old new : Option (List ℕ)) (failed after : Bool)
    (looked : List Looked) (status : ℕ) : Type 0 where
  pub earlier : List Looked
  pub last : Looked
  pub are : looked ≡ earlier ++ last ∷ []
  pub still : Still earlier last
  pub go_on : AllByRecursion ImportGoesOn earlier
  pub ends : ImportEnds old new failed after (import_text earlier) last
  pub status_is : status ≡ 3

-- An import. What was looked at are the first of the known files, and their uploads ran with these replies. The others
-- are left, and still come.
pub record Imported {B : Type 0} (remaining : B → Option (List ℕ)) (broken : B → Type 0)
    (Runs : List Input → List Reply → Type 0) (asked : List ℕ → Input) (known left : Option (List (NextFile B)))
    (old new : Option (List ℕ)) (failed after : Bool) (status : ℕ) : Type 0 where
  pub looked : List Looked
  pub rest : List (NextFile B)
  pub taken : IfSome known (λ files. TakesFiles remaining broken files looked rest)
  pub ran : Runs (uploads asked looked) (replies looked)
  pub ended : WholeImport (IfSome known (λ files. left ≡ Some [])) old new failed after looked rest status
      ⊎ Early (λ earlier last. IfSome known (λ files. StillCome remaining broken files earlier last rest left)) old new
      failed after looked status
