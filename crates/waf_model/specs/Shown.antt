-- What a field shows of a request, and where it is oversized (AWS WAF Developer Guide, "Request components" and "Oversize
-- web request components"; how arguments and cookies are cut is this project's own). The body's limit, in bytes, is a
-- parameter.
use Rattle.std.specs.Prelude.{ℕ, ◌+◌, List, [], ◌∷◌, length, map, filter, take, codes, Bool, false, true, not, nat_lt, if◌then◌else◌, IsTrue}
use Rattle.std.specs.List.{flat_map, list_any}
use Rattle.std.specs.Option.{option_map_or, option_to_list}
use Rattle.std.specs.Str.{bytes_eq, str_eq_ignore_ascii_case}
use Rattle.waf_model.specs.Pieces.{cookies_of}
use Rattle.waf_model.specs.Within.{value_of_header}
use Rattle.waf_model.specs.declared.field.Field.{Field}
use Rattle.waf_model.specs.declared.field.Field.TheVariants.{Method, UriPath, QueryString, Header, Argument, AllArguments, Body, Headers, Cookies}
use Rattle.waf_model.specs.declared.field.Filter.{Filter}
use Rattle.waf_model.specs.declared.field.Filter.TheVariants.{All, Included, Excluded}
use Rattle.waf_model.specs.declared.field.Part.{Part}
use Rattle.waf_model.specs.declared.field.Part.TheVariants.{Key, Value, Both}
use Rattle.waf_model.specs.declared.request.Header as requests
use Rattle.waf_model.specs.declared.request.Request.{Request}
use Rattle.waf_model.specs.Inspected.{inspected, is_over}
use Rattle.waf_model.specs.NamedPieces.{arguments_of, name_of, value_of}

-- what is counted of a header: its name and its value
abbrev pub header_size : requests.Header → ℕ
header_size header = length header.name + length header.value

-- what is counted of a cookie: the whole piece without its leading spaces
abbrev pub cookie_size : List ℕ → ℕ
cookie_size piece = length piece

-- the cookies of a request
abbrev pub request_cookies : Request → List (List ℕ)
request_cookies request = option_map_or cookies_of (value_of_header request (codes "cookie")) []

-- the field is oversized in the request; a field of another kind never is
abbrev pub is_oversized : Field → Request → ℕ → Bool
is_oversized (Body oversize) request body_limit = nat_lt body_limit (length request.body)
is_oversized (Headers filter part oversize) request body_limit = is_over header_size request.headers
is_oversized (Cookies filter part oversize) request body_limit = is_over cookie_size (request_cookies request)
is_oversized field request body_limit = false

abbrev pub IsOversized : Field → Request → ℕ → Type 0
IsOversized field request body_limit = IsTrue (is_oversized field request body_limit)

-- the filter selects the name; `same` says which names are the same
abbrev pub selects : (List ℕ → List ℕ → Bool) → Filter → List ℕ → Bool
selects same All name = true
selects same (Included names) name = list_any (same name) names
selects same (Excluded names) name = not (list_any (same name) names)

-- what is looked at of a name and its value; under ALL the name comes first
abbrev pub looked_at : Part → List ℕ → List ℕ → List (List ℕ)
looked_at Key name value = name ∷ []
looked_at Value name value = value ∷ []
looked_at Both name value = name ∷ value ∷ []

-- what is looked at of a header; names compare without regard to the case of letters
abbrev pub of_header : Filter → Part → requests.Header → List (List ℕ)
of_header filter part header = if selects str_eq_ignore_ascii_case filter header.name then looked_at part header.name header.value else []

-- what is looked at of a cookie; names compare exactly
abbrev pub of_cookie : Filter → Part → List ℕ → List (List ℕ)
of_cookie filter part cookie = if selects bytes_eq filter (name_of cookie) then looked_at part (name_of cookie) (value_of cookie) else []

-- the values of the arguments of that name, without regard to the case of letters
abbrev pub values_named : List ℕ → List (List ℕ) → List (List ℕ)
values_named name arguments = map value_of (filter (λ argument. str_eq_ignore_ascii_case (name_of argument) name) arguments)

-- the texts that the field shows, in order; what is oversized is cut before the filter
abbrev pub shown : Field → Request → ℕ → List (List ℕ)
shown Method request body_limit = request.method ∷ []
shown UriPath request body_limit = request.path ∷ []
shown QueryString request body_limit = request.query ∷ []
shown (Header name) request body_limit = option_to_list (value_of_header request name)
shown (Argument name) request body_limit = values_named name (arguments_of request.query)
shown AllArguments request body_limit = map value_of (arguments_of request.query)
shown (Body oversize) request body_limit = take body_limit request.body ∷ []
shown (Headers filter part oversize) request body_limit = flat_map (of_header filter part) (inspected header_size request.headers)
shown (Cookies filter part oversize) request body_limit = flat_map (of_cookie filter part) (inspected cookie_size (request_cookies request))
