-- The bytes of a response.
use Rattle.std.specs.Prelude.{◌≡◌, ℕ, Bool, true, false, ◌==◌, List, [], ◌∷◌, ◌++◌, length, codes, decimal, Option, Some, None}
use Rattle.std.specs.List.{list_any}
use Rattle.http.specs.StatusCode.{status_text}
use Rattle.httparse.specs.Ascii.{crlf_bytes}
use Rattle.mt_http.specs.declared.responses.Media.{Media}
use Rattle.mt_http.specs.declared.responses.Media.TheVariants.{Json, Csv, Plain}
use Rattle.mt_http.specs.declared.responses.Allow.{Allow}
use Rattle.mt_http.specs.declared.responses.Allow.TheVariants as allow
use Rattle.mt_http.specs.declared.wire.Refusal.{Refusal}
use Rattle.mt_http.specs.declared.wire.Refusal.TheVariants as refusal

-- the statuses of responses
abbrev pub statuses : List ℕ
statuses = 200 ∷ 400 ∷ 404 ∷ 405 ∷ 409 ∷ 411 ∷ 413 ∷ 422 ∷ 431 ∷ 500 ∷ 503 ∷ 507 ∷ []

abbrev pub IsStatus : ℕ → Type 0
IsStatus n = list_any (λ s. s == n) statuses ≡ true

-- a line of the head
abbrev pub line : List ℕ → List ℕ
line text = text ++ crlf_bytes

abbrev pub media_text : Media → List ℕ
media_text Json = codes "application/json"
media_text Csv = codes "text/csv"
media_text Plain = codes "text/plain"

abbrev pub allow_line : Option Allow → List ℕ
allow_line None = []
allow_line (Some allow.Get) = line (codes "Allow: GET")
allow_line (Some allow.Post) = line (codes "Allow: POST")
allow_line (Some allow.Both) = line (codes "Allow: GET, POST")

abbrev pub close_line : Bool → List ℕ
close_line true = line (codes "Connection: close")
close_line false = []

-- the lines of the head, and the empty line behind them
unfoldable pub head_lines : List ℕ → List ℕ → ℕ → List ℕ → List ℕ → List ℕ
head_lines status media len allowed close =
    status
    ++ (codes "Content-Type: " ++ (media ++ (crlf_bytes
    ++ codes "Content-Length: " ++ (decimal len ++ (crlf_bytes
    ++ (allowed ++ (close ++ crlf_bytes)))))))

abbrev pub head_text : ℕ → Media → ℕ → Option Allow → Bool → List ℕ
head_text status media len allowed close =
    head_lines (line (codes "HTTP/1.1 " ++ status_text status)) (media_text media) len (allow_line allowed) (close_line close)

-- the whole response
unfoldable pub response : ℕ → Media → Option Allow → List ℕ → Bool → List ℕ
response status media allowed body close = head_text status media (length body) allowed close ++ body

abbrev pub refusal_number : Refusal → ℕ
refusal_number refusal.BadRequest = 400
refusal_number refusal.LengthRequired = 411
refusal_number refusal.BodyTooLong = 413
refusal_number refusal.HeadTooLong = 431

abbrev pub refusal_body : Refusal → List ℕ
refusal_body refusal.BadRequest = codes "{\"error\":\"bad request\"}"
refusal_body refusal.LengthRequired = codes "{\"error\":\"length required\"}"
refusal_body refusal.BodyTooLong = codes "{\"error\":\"body too long\",\"limit\":65536}"
refusal_body refusal.HeadTooLong = codes "{\"error\":\"head too long\",\"limit\":8192}"

-- the response to what is refused, behind which the connection closes
abbrev pub refusal_text : Refusal → List ℕ
refusal_text e = response (refusal_number e) Json None (refusal_body e) true

-- the response for want of memory
abbrev pub memory_text : Bool → List ℕ
memory_text close = response 507 Json None (codes "{\"error\":\"memory\"}") close
