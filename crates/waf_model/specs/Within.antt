-- The requests that a review speaks of. The limits are this project's own; the body's, in bytes, is a parameter.
use Rattle.std.specs.Prelude.{ℕ, ◌+◌, ◌≤◌, ◌<◌, ◌^◌, ◌≢◌, List, length, map, sum_by, codes, Bool, ◌&&◌, ◌||◌, ◌==◌, not, nat_le, Option, find, option_map, IsTrue, All, AllPairs}
use Rattle.std.specs.List.{list_all, list_any, starts_with}
use Rattle.std.specs.Option.{option_map_or}
use Rattle.std.specs.Str.{str_eq_ignore_ascii_case}
use Rattle.waf_model.specs.Pieces.{cookies_of}
use Rattle.waf_model.specs.declared.address.Address.{Address}
use Rattle.waf_model.specs.declared.address.Address.TheVariants.{V4, V6}
use Rattle.waf_model.specs.declared.request.Header.{Header}
use Rattle.waf_model.specs.declared.request.Request.{Request}

-- a byte of a token: a letter, a digit or one of !#$%&'*+-.^_`|~ (RFC 9110, 5.6.2)
abbrev pub is_token_byte : ℕ → Bool
is_token_byte b = (nat_le 65 b && nat_le b 90) || (nat_le 97 b && nat_le b 122) || (nat_le 48 b && nat_le b 57)
    || list_any (λ mark. mark == b) (codes "!#$%&'*+-.^_`|~")

-- a token has one byte or more
abbrev pub is_token : List ℕ → Bool
is_token text = nat_le 1 (length text) && list_all is_token_byte text

-- a letter A to Z
abbrev pub is_upper : ℕ → Bool
is_upper b = nat_le 65 b && nat_le b 90

-- a visible character of ASCII
abbrev pub is_visible : ℕ → Bool
is_visible b = nat_le 33 b && nat_le b 126

-- a byte of a path: visible, and neither `?` nor `#`
abbrev pub is_path_byte : ℕ → Bool
is_path_byte b = is_visible b && not (b == 63) && not (b == 35)

-- a byte of a query: visible, and not `#`
abbrev pub is_query_byte : ℕ → Bool
is_query_byte b = is_visible b && not (b == 35)

-- a byte of a header's value (RFC 9110, 5.5): a tab, 32 to 126, or 128 to 255
abbrev pub is_value_byte : ℕ → Bool
is_value_byte b = (b == 9) || (nat_le 32 b && nat_le b 126) || (nat_le 128 b && nat_le b 255)

-- a path begins with `/` and has at most 4,096 bytes, each of them a path byte
abbrev pub is_path : List ℕ → Bool
is_path path = starts_with ◌==◌ path (codes "/") && nat_le (length path) 4096 && list_all is_path_byte path

-- a query has at most 4,096 bytes, each of them a query byte
abbrev pub is_query : List ℕ → Bool
is_query query = nat_le (length query) 4096 && list_all is_query_byte query

-- a method is a token of 1 to 32 bytes
abbrev pub is_method : List ℕ → Bool
is_method method = is_token method && nat_le (length method) 32

-- a name is a token in lower case, and a value has only value bytes
abbrev pub is_header : Header → Bool
is_header header = is_token header.name && not (list_any is_upper header.name) && list_all is_value_byte header.value

-- the value of the first header of that name, without regard to the case of letters
abbrev pub value_of_header : Request → List ℕ → Option (List ℕ)
value_of_header request name = option_map (λ header. header.value) (find (λ header. str_eq_ignore_ascii_case header.name name) request.headers)

-- the bytes of all header names and values
abbrev pub header_bytes : List Header → ℕ
header_bytes headers = sum_by (λ header. length header.name + length header.value) headers

-- how many cookies the request has
abbrev pub cookie_count : Request → ℕ
cookie_count request = option_map_or (λ value. length (cookies_of value)) (value_of_header request (codes "cookie")) 0

-- the number is that of an address of its version
abbrev pub IsAddress : Address → Type 0
IsAddress (V4 n) = n < 2 ^ 32
IsAddress (V6 n) = n < 2 ^ 128

-- the request is within the limits, with a body of at most so many bytes, each of which is one (below 256)
pub record Within (request : Request) (body_limit : ℕ) : Type 0 where
  pub method : IsTrue (is_method request.method)
  pub path : IsTrue (is_path request.path)
  pub query : IsTrue (is_query request.query)
  pub header_count : length request.headers ≤ 200
  pub headers : All (λ header. IsTrue (is_header header)) request.headers
  pub names : AllPairs (λ a b. a ≢ b) (map (λ header. header.name) request.headers)
  pub header_total : header_bytes request.headers ≤ 8192
  pub cookies : cookie_count request ≤ 200
  pub body : length request.body ≤ body_limit
  pub body_bytes : All (λ b. b < 256) request.body
  pub address : IsAddress request.address
