-- The names of headers, which are the same without regard to the case of letters (RFC 9110, 5.1).
use Rattle.std.specs.Prelude.{ℕ, List, find, Option, option_map}
use Rattle.std.specs.Str.{bytes_eq, str_to_ascii_lowercase}
use Rattle.waf_model.specs.declared.request.Request.{Request}

-- the name in lower case, as every header within the limits has it
abbrev pub lower_name : List ℕ → List ℕ
lower_name name = str_to_ascii_lowercase name

-- the value of the first header of exactly that name
abbrev pub value_named : Request → List ℕ → Option (List ℕ)
value_named request name = option_map (λ header. header.value) (find (λ header. bytes_eq header.name name) request.headers)
