-- The lines of a recorded request's headers, joined by name (this project's own; RFC 9110, 5.3, and RFC 6265, 5.4, say
-- with what lines may be joined).
use Rattle.std.specs.Prelude.{ℕ, List, [], ◌∷◌, ◌++◌, map, codes, if◌then◌else◌}
use Rattle.std.specs.Char.{to_ascii_lowercase}
use Rattle.std.specs.List.{fold}
use Rattle.std.specs.Str.{bytes_eq}
use Rattle.waf_model.specs.declared.request.Header.{Header}

-- what stands between two joined lines of a header of that name: `; ` for `cookie`, and `, ` for every other
abbrev pub separator : List ℕ → List ℕ
separator name = if bytes_eq name (codes "cookie") then codes "; " else codes ", "

-- the line with its name in lower case
abbrev pub lowered : Header → Header
lowered line = record line { name = map to_ascii_lowercase line.name }

-- the value of the line behind that of a header of its name
abbrev pub joined_to : Header → Header → Header
joined_to header line = record header { value = header.value ++ separator line.name ++ line.value }

-- a line more: it is joined to the header of its name, and where there is none it stands behind all headers
abbrev pub with_line : List Header → Header → List Header
with_line [] line = line ∷ []
with_line (header ∷ headers) line = if bytes_eq line.name header.name then joined_to header line ∷ headers else header ∷ with_line headers line

-- the headers of the lines, each where its first line stands, its name in lower case
abbrev pub joined : List Header → List Header
joined lines = fold with_line [] (map lowered lines)
