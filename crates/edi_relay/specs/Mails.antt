-- What is written of the mail texts while the segments of an interchange come.
use Rattle.std.specs.Prelude.{◌≡◌, ◌≢◌, ℕ, ◌+◌, Bool, true, false, List, [], ◌∷◌, ◌++◌, length, map, drop, codes}
use Rattle.std.specs.Fmt.{decimal}
use Rattle.edi_segments.specs.declared.segment.Segment.{Segment}
use Rattle.edi_tokens.specs.Text.{text, una}
use Rattle.edi_envelope.specs.Segments.{is_unz, last_segment}
use Rattle.edi_envelope.specs.Blocks.{blocks}
use Rattle.edi_envelope.specs.Message.{message_of}
use Rattle.edi_envelope.specs.Interchange.{messages_in}
use Rattle.edi_moment.specs.Moment.{date_text, time_text}
use Rattle.edi_envelope.specs.Mail.{renumbered}
use Rattle.edi_envelope.specs.Gathered.{IsLast}
use Rattle.edi_relay.specs.declared.relay.RelayWords.{RelayWords}
use Rattle.edi_relay.specs.declared.mails.Mails.{Mails}
use Rattle.edi_relay.specs.Relay.{mail_texts}

-- the interchange header of a mail text, up to its number
abbrev pub header_text : RelayWords → List ℕ
header_text words =
    codes "UNB+UNOC:3+" ++ words.hub ++ codes ":14+" ++ words.owner ++ codes ":14+" ++ date_text words.moment
    ++ codes ":" ++ time_text words.moment ++ codes "+"

-- the service string and the interchange header, of which all up to the number is given
abbrev pub front_text : List ℕ → ℕ → ℕ → List ℕ
front_text header mark number = una mark ++ (header ++ (decimal number ++ codes "'"))

-- the interchange trailer
abbrev pub trailer_text : ℕ → List ℕ
trailer_text number = codes "UNZ+1+" ++ (decimal number ++ codes "'")

-- of the mail text of a message that is begun; nothing if none is
abbrev pub begun_text : List ℕ → ℕ → ℕ → List Segment → List ℕ
begun_text header mark number [] = []
begun_text header mark number (unh ∷ rest) = front_text header mark number ++ text (map renumbered (unh ∷ rest))

abbrev pub IsOpen : Bool → List Segment → Type 0
IsOpen true last = last ≢ []
IsOpen false last = last ≡ []

-- the mail texts of the messages before the last UNH, and the prefix of that of the message from there on
pub record KeepsMails (words : RelayWords) (mark : ℕ) (lent : List Segment) (mails : Mails) : Type 0 where
  pub header : mails.header.items ≡ header_text words
  pub before : List Segment
  pub last : List Segment
  pub split : drop 1 lent ≡ before ++ last
  pub is_last : IsLast before last
  pub begun : IsOpen mails.begun last
  pub number : mails.number ≡ words.number + length (blocks before)
  pub out : mails.out.items
      ≡ mail_texts words mark words.number (map message_of (blocks before)) ++ begun_text (header_text words) mark mails.number last

-- the mail texts of all messages
pub record HasAllMails (words : RelayWords) (mark : ℕ) (lent : List Segment) (mails : Mails) : Type 0 where
  pub header : mails.header.items ≡ header_text words
  pub begun : mails.begun ≡ false
  pub number : mails.number ≡ words.number + length (blocks (drop 1 lent))
  pub out : mails.out.items ≡ mail_texts words mark words.number (map message_of (blocks (drop 1 lent)))

-- the mail texts of all messages, if UNZ is the last segment
abbrev pub EndsMails : RelayWords → ℕ → List Segment → Mails → Type 0
EndsMails words mark lent mails = mails.out.items ≡ mail_texts words mark words.number (map message_of (messages_in lent))

-- what is written of segments, of which at most the last is UNZ
pub record WritesMails (words : RelayWords) (mark : ℕ) (lent : List Segment) (mails : Mails) : Type 0 where
  pub going : is_unz (last_segment lent) ≡ false → KeepsMails words mark lent mails
  pub ended : is_unz (last_segment lent) ≡ true → EndsMails words mark lent mails
