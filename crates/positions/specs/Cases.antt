-- One table of what is asked and what the documents say: the cases P1 to P13, the codes that are refused, the ends of the ranges, the editions, bad
-- characters, place books and short codes, and the cells about the poles.
-- Assumes nothing.
use Rattle.std.specs.Prelude.{List, [], ◌∷◌, ◌++◌, ℕ, ◌+◌, ◌*◌, ℤ, pos, neg_ℤ, ◌-ℤ◌}
use Prim.Native.Char.{code}
use Prim.Native.String.{String}
use Rattle.grid.specs.declared.Cell.{Cell}
use Rattle.grid.specs.declared.SpaceCell.{SpaceCell}
use Rattle.grid.specs.Answers.{Answer, accepted, refused, refusal, about}
use Rattle.grid.specs.Plane.{cell_of, cell_from}
use Rattle.grid.specs.Space.{space_cell_in}
use Rattle.plane.specs.Text.{plane_text}
use Rattle.space.specs.Space.{space_text}
use Rattle.reference.specs.Text.{reference_text, target_text}
use Rattle.places.specs.declared.Spot.{Spot}
use Rattle.places.specs.Book.{Entry, book_of}
use Rattle.places.specs.Finding.{found_in}
use Rattle.short_codes.specs.Text.{short_text}

-- a text's bytes
abbrev pub bytes : String → List ℕ
bytes String.[] = []
bytes (String.◌∷◌ c t) = code c ∷ bytes t

-- a number below 0
abbrev pub - : ℕ → ℤ
- n = neg_ℤ (pos n)

-- d degrees and m minutes, in units
abbrev pub deg : ℕ → ℕ → ℕ
deg d m = d * 7372800 + m * 60 * 2048

-- the latitude n units below the North Pole, and n units above the South Pole
abbrev pub north_less : ℕ → ℤ
north_less n = pos (deg 90 0) -ℤ pos n

abbrev pub south_plus : ℕ → ℤ
south_plus n = pos n -ℤ pos (deg 90 0)

-- a case: what is asked, and what the documents say
pub data Case : Type 0 where
  -- level, longitude, latitude: the plane code
  writes : ℤ → ℤ → ℤ → String → Case
  -- the plane code: level, west, south, width, height
  reads : String → ℕ → ℤ → ℤ → ℕ → ℕ → Case
  -- edition, level, longitude, latitude, layer: the space code
  layers : ℤ → ℤ → ℤ → ℤ → ℤ → String → Case
  -- edition, the space code: its plane cell's numbers, floor and thickness
  stacks : ℤ → String → ℕ → ℤ → ℤ → ℕ → ℕ → ℤ → ℕ → Case
  -- the reference code: the plane code that it leads to
  leads : String → String → Case
  -- base and target: the reference code between them
  relates : String → String → String → Case
  -- a position that is refused
  outside : ℤ → ℤ → ℤ → ℕ → Case
  -- a plane code that is refused, with number and place
  stops : String → ℕ → ℕ → Case
  -- edition, level, longitude, latitude and layer that are refused
  beyond : ℤ → ℤ → ℤ → ℤ → ℤ → ℕ → Case
  -- edition, and a space code that is refused, with number and place
  halts : ℤ → String → ℕ → ℕ → Case
  -- a reference code that is refused, with number and place
  strays : String → ℕ → ℕ → Case
  -- base and target that are refused, with number, place and ordinal
  parts : String → String → ℕ → ℕ → ℕ → Case
  -- a list of places: the bytes of its place book
  lists : List Entry → List ℕ → Case
  -- a place book and a name: where its entry stands, the name's length and the code's
  finds : List ℕ → String → ℕ → ℕ → ℕ → Case
  -- a place book and a name that are refused
  misses : List ℕ → String → ℕ → Case
  -- a place book and a short code: the plane code that it leads to
  follows : List ℕ → String → String → Case
  -- a place book and a short code that are refused, with number and place
  fails : List ℕ → String → ℕ → ℕ → Case

-- what a call gives: a text, a cell, a space cell or a place's spot; and the bytes of a book
pub data Outcome : Type 0 where
  texts : Answer (List ℕ) → Outcome
  cells : Answer Cell → Outcome
  spaces : Answer SpaceCell → Outcome
  spots : Answer Spot → Outcome
  books : List ℕ → Outcome

-- what is asked for, by the definitions of the contracts
abbrev pub given : Case → Outcome
given (writes l u v t) = texts (plane_text l u v)
given (reads t l x y w h) = cells (cell_of (bytes t))
given (layers e l u v z t) = texts (space_text e l u v z)
given (stacks e t l x y w h f n) = spaces (space_cell_in e (bytes t))
given (leads t s) = texts (target_text (bytes t))
given (relates b t s) = texts (reference_text (bytes b) (bytes t))
given (outside l u v n) = texts (plane_text l u v)
given (stops t n p) = cells (cell_of (bytes t))
given (beyond e l u v z n) = texts (space_text e l u v z)
given (halts e t n p) = spaces (space_cell_in e (bytes t))
given (strays t n p) = texts (target_text (bytes t))
given (parts b t n p k) = texts (reference_text (bytes b) (bytes t))
given (lists es s) = books (book_of es)
given (finds s t at n m) = spots (found_in (bytes t) s)
given (misses s t n) = spots (found_in (bytes t) s)
given (follows s t u) = texts (short_text (bytes t) s)
given (fails s t n p) = texts (short_text (bytes t) s)

-- what the documents say
abbrev pub said : Case → Outcome
said (writes l u v t) = texts (accepted (bytes t))
said (reads t l x y w h) = cells (accepted (cell_from l x y w h))
said (layers e l u v z t) = texts (accepted (bytes t))
said (stacks e t l x y w h f n) = spaces (accepted (record { cell = cell_from l x y w h; floor = f; thickness = n }))
said (leads t s) = texts (accepted (bytes s))
said (relates b t s) = texts (accepted (bytes s))
said (outside l u v n) = texts (refused (refusal n 0))
said (stops t n p) = cells (refused (refusal n p))
said (beyond e l u v z n) = texts (refused (refusal n 0))
said (halts e t n p) = spaces (refused (refusal n p))
said (strays t n p) = texts (refused (refusal n p))
said (parts b t n p k) = texts (refused (about k (refusal n p)))
said (lists es s) = books s
said (finds s t at n m) = spots (accepted (record { start = at; name = n; code = m }))
said (misses s t n) = spots (refused (refusal n 0))
said (follows s t u) = texts (accepted (bytes u))
said (fails s t n p) = texts (refused (refusal n p))

-- document 01's cases, the run cases of 180°, N00A and N61A as document 02 has them
abbrev pub paper_cases : List Case
paper_cases =
    -- P1, P2, P3
    writes (pos 10) (pos 0) (pos 0) "N31A0000000000000000"
    ∷ writes (pos 10) (- 1) (pos 0) "N30A0000000000000000"
    ∷ writes (pos 10) (pos 0) (- 1) "S31A0000000000000000"
    -- P4 (000, B.2)
    ∷ writes (pos 8) (pos 857549557) (pos 294861578) "N50J47539B825534"
    -- P5, P6
    ∷ writes (pos 2) (- 44236800) (pos 0) "N30AB0"
    ∷ writes (pos 2) (- 44236801) (pos 0) "N29A00"
    -- P7
    ∷ writes (pos 1) (pos 0) (pos 648806399) "N31V"
    ∷ writes (pos 1) (pos 0) (pos 648806400) "N000"
    ∷ writes (pos 1) (pos 0) (- 648806400) "S31V"
    ∷ writes (pos 1) (pos 0) (- 648806401) "S000"
    -- P8
    ∷ writes (pos 2) (- 1) (pos 648806400) "N00030"
    ∷ writes (pos 2) (pos 884736000) (pos 648806400) "N00020"
    ∷ writes (pos 2) (- 1327104000) (pos 648806400) "N00021"
    -- P9
    ∷ writes (pos 3) (pos 0) (pos 656179200) "N000012"
    ∷ writes (pos 3) (pos 0) (pos 659865600) "N000001"
    -- P10
    ∷ writes (pos 10) (- 1) (pos 663551999) "N0000000000000000000"
    -- P11 (000, table 1)
    ∷ writes (pos 10) (pos 255316321) (pos 277488284) "N36J93078B3101524314"
    ∷ reads "N36J93078B3101524314" 10 (pos 255316321) (pos 277488284) 1 1
    ∷ layers (pos 1) (pos 10) (pos 255316321) (pos 277488284) (pos 0) "N036J0093000780B3010010520430140"
    ∷ stacks (pos 1) "N036J0093000780B3010010520430140" 10 (pos 255316321) (pos 277488284) 1 1 (pos 0) 1
    -- P12
    ∷ layers (pos 1) (pos 1) (pos 0) (pos 0) (- 1) "N131A63"
    ∷ stacks (pos 1) "N131A63" 1 (pos 0) (pos 0) 44236800 29491200 (- 29491200) 29491200
    ∷ layers (pos 1) (pos 4) (pos 0) (pos 0) (pos 1843199) "N031A000000000E"
    -- P13
    ∷ leads "N50J475492E-10" "N50J475493E"
    ∷ leads "N31A0000000-0A" "S31A0000000"
    ∷ leads "N30A0000000-10" "N31A0000000"
    ∷ relates "N50J475492E" "N50J475493E" "N50J475492E-10"
    ∷ relates "N31A0000000" "S31A0000000" "N31A0000000-0A"
    ∷ relates "N30A0000000" "N31A0000000" "N30A0000000-10"
    -- those that are run, and the program's lines
    ∷ writes (pos 1) (pos 1327104000) (pos 0) "N01A"
    ∷ stops "N00A" 20 3
    ∷ stops "N61A" 20 2
    ∷ stops "" 6 0
    ∷ stops "n31A" 7 0
    ∷ reads "N31A" 1 (pos 0) (pos 0) 44236800 29491200
    ∷ []

-- the two editions, their bits worked out by hand from source 000's annex C.14
abbrev pub edition_cases : List Case
edition_cases =
    -- layer 0 in both; layer -1, all of whose bits are set
    layers (pos 2) (pos 10) (pos 255316321) (pos 277488284) (pos 0) "N036J0093000780B3010010520430140"
    ∷ layers (pos 1) (pos 10) (pos 0) (pos 0) (- 1) "N131A630070100E00E01007007007007"
    ∷ layers (pos 2) (pos 10) (pos 0) (pos 0) (- 1) "N131A630070100F00F01007007007007"
    ∷ stacks (pos 2) "N131A630070100F00F01007007007007" 10 (pos 0) (pos 0) 1 1 (- 1) 1
    -- both ends of both ranges, and one past each
    ∷ layers (pos 1) (pos 2) (pos 0) (pos 0) (pos 1887436799) "N031A63007"
    ∷ layers (pos 1) (pos 2) (pos 0) (pos 0) (- 1887436800) "N131A00000"
    ∷ beyond (pos 1) (pos 2) (pos 0) (pos 0) (pos 1887436800) 4
    ∷ beyond (pos 1) (pos 2) (pos 0) (pos 0) (- 1887436801) 4
    ∷ layers (pos 2) (pos 10) (pos 0) (pos 0) (pos 2147483647) "N031A630070100F00F01007007007007"
    ∷ layers (pos 2) (pos 2) (pos 0) (pos 0) (- 2147483648) "N131A00000"
    ∷ beyond (pos 2) (pos 2) (pos 0) (pos 0) (pos 2147483648) 4
    ∷ beyond (pos 2) (pos 2) (pos 0) (pos 0) (- 2147483649) 4
    -- a layer that edition 1 has not: bits 29, 30, 31 and 24 are set
    ∷ layers (pos 2) (pos 2) (pos 0) (pos 0) (pos 1887436800) "N031A56002"
    ∷ stacks (pos 2) "N031A56002" 2 (pos 0) (pos 0) 3686400 3686400 (pos 1887436800) 4194304
    -- F at levels 4 and 5: a digit in edition 2, refused at its place in edition 1
    ∷ stacks (pos 2) "N031A000000000F" 4 (pos 0) (pos 0) 122880 122880 (pos 1966080) 131072
    ∷ halts (pos 1) "N031A000000000F" 20 14
    ∷ stacks (pos 2) "N031A000000000000F" 5 (pos 0) (pos 0) 8192 8192 (pos 122880) 8192
    ∷ halts (pos 1) "N031A000000000000F" 20 17
    -- 13: after 1 and before 2 in writing, before 6 in reading
    ∷ beyond (pos 3) (pos 0) (pos 0) (pos 0) (pos 0) 1
    ∷ beyond (pos 3) (pos 1) (pos 1327104001) (pos 0) (pos 0) 13
    ∷ beyond (- 1) (pos 1) (pos 0) (pos 0) (pos 0) 13
    ∷ halts (pos 0) "" 13 0
    ∷ halts (pos 4294967297) "N031A00" 13 0
    ∷ []

-- a bad character is garbled or misplaced (document 02, Wish 5)
abbrev pub kind_cases : List Case
kind_cases =
    -- the first and the last code character of each run, and the bytes beside them, where a row letter belongs
    stops "N31/" 7 3
    ∷ stops "N310" 20 3
    ∷ stops "N319" 20 3
    ∷ stops "N31:" 7 3
    ∷ stops "N31@" 7 3
    ∷ reads "N31V" 1 (pos 0) (pos (deg 84 0)) (deg 6 0) (deg 4 0)
    ∷ stops "N31W" 7 3
    ∷ stops "V31A" 20 0
    ∷ stops "A31A" 20 0
    ∷ stops "@31A" 7 0
    ∷ stops "W31A" 7 0
    -- small letters and the hyphen are none
    ∷ stops "N31a" 7 3
    ∷ stops "N31-" 7 3
    ∷ stops "N-1A" 7 1
    -- the first bad one decides, whatever stands behind it
    ∷ stops "N7aw" 20 1
    ∷ stops "Nz1Z" 7 1
    ∷ stops "N000A-" 20 4
    ∷ stops "N000-A" 7 4
    -- a height character as a plane character, in their order in the space code
    ∷ halts (pos 1) "N231A00" 20 1
    ∷ halts (pos 1) "N-31A00" 7 1
    ∷ halts (pos 1) "N-71A00" 7 1
    ∷ halts (pos 1) "N071A-0" 20 2
    ∷ halts (pos 1) "N03-A70" 7 3
    ∷ halts (pos 1) "N031A64" 20 6
    ∷ halts (pos 2) "N031A6G" 20 6
    ∷ halts (pos 2) "N031A6g" 7 6
    ∷ halts (pos 2) "N031A000000000G" 20 14
    -- the hyphen counts at its place alone; there a code character is misplaced
    ∷ strays "N31A0000000010" 20 11
    ∷ strays "N31A0000000V10" 20 11
    ∷ strays "N31A0000000W10" 7 11
    ∷ strays "N31A0000000=10" 7 11
    ∷ strays "N31A0000000--0" 7 12
    ∷ strays "N31A0000000-0-" 7 13
    ∷ strays "N31A0000000-80" 20 12
    ∷ strays "N31A0000000-0H" 20 13
    ∷ strays "N31A0000000-a0" 7 12
    ∷ strays "N-1A0000000-10" 7 1
    ∷ strays "N61A0000000-1-" 20 2
    ∷ strays "N31A-1-" 7 6
    -- of base and target, the base first
    ∷ parts "N00A" "n31A" 20 3 1
    ∷ parts "n31A" "N00A" 7 0 1
    ∷ parts "N31A0000000" "N61A0000000" 20 2 2
    ∷ parts "N31A0000000" "N31A-000000" 7 4 2
    ∷ []

-- the ends of the ranges (document 02, Wish 2), their codes worked out by hand
abbrev pub end_cases : List Case
end_cases =
    -- 180° is the last column west of Greenwich: zone 1, and every column the outermost; also below the equator, and in the belt (P8)
    writes (pos 10) (pos 1327104000) (pos 0) "N01AB01E0E0170707070"
    ∷ writes (pos 10) (- 1327104000) (pos 0) "N01AB01E0E0170707070"
    ∷ writes (pos 10) (pos 1327103999) (pos 0) "N60AB01E0E0170707070"
    ∷ writes (pos 1) (pos 1327104000) (- 1) "S01A"
    ∷ writes (pos 2) (pos 1327104000) (pos 648806400) "N00021"
    -- 90° is the pole's cap, at every longitude; both ends at once
    ∷ writes (pos 10) (pos 0) (pos 663552000) "N0000000000000000000"
    ∷ writes (pos 4) (- 884736000) (pos 663552000) "N00000000"
    ∷ writes (pos 10) (pos 1327104000) (pos 663552000) "N0000000000000000000"
    ∷ writes (pos 1) (pos 1327104000) (- 663552000) "S000"
    -- one number further, 2 before 3
    ∷ outside (pos 1) (pos 1327104001) (pos 0) 2
    ∷ outside (pos 1) (- 1327104001) (pos 0) 2
    ∷ outside (pos 1) (pos 1327104000) (pos 663552001) 3
    ∷ outside (pos 1) (pos 0) (- 663552001) 3
    ∷ outside (pos 1) (pos 1327104001) (pos 663552001) 2
    -- the space codes of both editions
    ∷ layers (pos 1) (pos 1) (pos 1327104000) (pos 0) (- 1) "N101A63"
    ∷ layers (pos 2) (pos 2) (pos 1327104000) (pos 0) (pos 0) "N001A00B00"
    ∷ layers (pos 1) (pos 1) (pos 1327104000) (pos 663552000) (pos 0) "N000000"
    ∷ layers (pos 2) (pos 1) (pos 5) (pos 663552000) (- 1) "N100063"
    ∷ beyond (pos 1) (pos 1) (pos 1327104001) (pos 663552001) (pos 1887436800) 2
    ∷ beyond (pos 2) (pos 1) (pos 1327104000) (pos 663552001) (pos 2147483648) 3
    ∷ beyond (pos 2) (pos 1) (pos 1327104000) (pos 663552000) (pos 2147483648) 4
    ∷ []

-- the cells about the poles, their numbers worked out from document 01's text
abbrev pub polar_cases : List Case
polar_cases =
    -- level 1: from 88° to the pole, all round
    reads "N000" 1 (pos 0) (pos (deg 88 0)) (deg 360 0) (deg 2 0)
    ∷ reads "S000" 1 (pos 0) (- (deg 90 0)) (deg 360 0) (deg 2 0)
    -- level 2, the sixteen cells of the north: the cap, the rest of the disc, the belt (180°, 300° and 240° eastward are -180°, -60° and -120°)
    ∷ reads "N00000" 2 (pos 0) (pos (deg 89 30)) (deg 360 0) (deg 0 30)
    ∷ reads "N00001" 2 (pos 0) (pos (deg 89 0)) (deg 120 0) (deg 0 30)
    ∷ reads "N00002" 2 (pos (deg 120 0)) (pos (deg 89 0)) (deg 120 0) (deg 0 30)
    ∷ reads "N00003" 2 (- (deg 120 0)) (pos (deg 89 0)) (deg 120 0) (deg 0 30)
    ∷ reads "N00010" 2 (pos 0) (pos (deg 88 0)) (deg 60 0) (deg 0 30)
    ∷ reads "N00011" 2 (pos (deg 60 0)) (pos (deg 88 0)) (deg 60 0) (deg 0 30)
    ∷ reads "N00012" 2 (pos 0) (pos (deg 88 30)) (deg 60 0) (deg 0 30)
    ∷ reads "N00013" 2 (pos (deg 60 0)) (pos (deg 88 30)) (deg 60 0) (deg 0 30)
    ∷ reads "N00020" 2 (pos (deg 120 0)) (pos (deg 88 0)) (deg 60 0) (deg 0 30)
    ∷ reads "N00021" 2 (- (deg 180 0)) (pos (deg 88 0)) (deg 60 0) (deg 0 30)
    ∷ reads "N00022" 2 (pos (deg 120 0)) (pos (deg 88 30)) (deg 60 0) (deg 0 30)
    ∷ reads "N00023" 2 (- (deg 180 0)) (pos (deg 88 30)) (deg 60 0) (deg 0 30)
    ∷ reads "N00030" 2 (- (deg 60 0)) (pos (deg 88 0)) (deg 60 0) (deg 0 30)
    ∷ reads "N00031" 2 (- (deg 120 0)) (pos (deg 88 0)) (deg 60 0) (deg 0 30)
    ∷ reads "N00032" 2 (- (deg 60 0)) (pos (deg 88 30)) (deg 60 0) (deg 0 30)
    ∷ reads "N00033" 2 (- (deg 120 0)) (pos (deg 88 30)) (deg 60 0) (deg 0 30)
    -- and of the south: a cell's south edge is the one nearer the pole
    ∷ reads "S00000" 2 (pos 0) (- (deg 90 0)) (deg 360 0) (deg 0 30)
    ∷ reads "S00001" 2 (pos 0) (- (deg 89 30)) (deg 120 0) (deg 0 30)
    ∷ reads "S00002" 2 (pos (deg 120 0)) (- (deg 89 30)) (deg 120 0) (deg 0 30)
    ∷ reads "S00003" 2 (- (deg 120 0)) (- (deg 89 30)) (deg 120 0) (deg 0 30)
    ∷ reads "S00010" 2 (pos 0) (- (deg 88 30)) (deg 60 0) (deg 0 30)
    ∷ reads "S00011" 2 (pos (deg 60 0)) (- (deg 88 30)) (deg 60 0) (deg 0 30)
    ∷ reads "S00012" 2 (pos 0) (- (deg 89 0)) (deg 60 0) (deg 0 30)
    ∷ reads "S00013" 2 (pos (deg 60 0)) (- (deg 89 0)) (deg 60 0) (deg 0 30)
    ∷ reads "S00020" 2 (pos (deg 120 0)) (- (deg 88 30)) (deg 60 0) (deg 0 30)
    ∷ reads "S00021" 2 (- (deg 180 0)) (- (deg 88 30)) (deg 60 0) (deg 0 30)
    ∷ reads "S00022" 2 (pos (deg 120 0)) (- (deg 89 0)) (deg 60 0) (deg 0 30)
    ∷ reads "S00023" 2 (- (deg 180 0)) (- (deg 89 0)) (deg 60 0) (deg 0 30)
    ∷ reads "S00030" 2 (- (deg 60 0)) (- (deg 88 30)) (deg 60 0) (deg 0 30)
    ∷ reads "S00031" 2 (- (deg 120 0)) (- (deg 88 30)) (deg 60 0) (deg 0 30)
    ∷ reads "S00032" 2 (- (deg 60 0)) (- (deg 89 0)) (deg 60 0) (deg 0 30)
    ∷ reads "S00033" 2 (- (deg 120 0)) (- (deg 89 0)) (deg 60 0) (deg 0 30)
    -- level 3 of belt cells: rows toward the pole, columns away from the prime meridian, eastward in the east
    ∷ reads "N000200" 3 (pos (deg 120 0)) (pos (deg 88 0)) (deg 30 0) (deg 0 15)
    ∷ reads "N000201" 3 (pos (deg 150 0)) (pos (deg 88 0)) (deg 30 0) (deg 0 15)
    ∷ reads "N000202" 3 (pos (deg 120 0)) (pos (deg 88 15)) (deg 30 0) (deg 0 15)
    ∷ reads "N000203" 3 (pos (deg 150 0)) (pos (deg 88 15)) (deg 30 0) (deg 0 15)
    ∷ reads "S000131" 3 (pos (deg 90 0)) (- (deg 88 45)) (deg 30 0) (deg 0 15)
    -- and westward in the west
    ∷ reads "N000210" 3 (- (deg 150 0)) (pos (deg 88 0)) (deg 30 0) (deg 0 15)
    ∷ reads "N000211" 3 (- (deg 180 0)) (pos (deg 88 0)) (deg 30 0) (deg 0 15)
    ∷ reads "N000212" 3 (- (deg 150 0)) (pos (deg 88 15)) (deg 30 0) (deg 0 15)
    ∷ reads "N000213" 3 (- (deg 180 0)) (pos (deg 88 15)) (deg 30 0) (deg 0 15)
    ∷ reads "S000312" 3 (- (deg 90 0)) (- (deg 88 30)) (deg 30 0) (deg 0 15)
    ∷ reads "S000323" 3 (- (deg 60 0)) (- (deg 89 0)) (deg 30 0) (deg 0 15)
    -- level 4 of a belt cell in the east and in the west: 15 by 15
    ∷ reads "N0002013A" 4 (pos (deg 156 0)) (pos (deg 88 10)) (deg 2 0) (deg 0 1)
    ∷ reads "N000213E7" 4 (- (deg 180 0)) (pos (deg 88 22)) (deg 2 0) (deg 0 1)
    -- level 3 of the cap: the new cap, and the rest in three
    ∷ reads "N000000" 3 (pos 0) (pos (deg 89 45)) (deg 360 0) (deg 0 15)
    ∷ reads "N000001" 3 (pos 0) (pos (deg 89 30)) (deg 120 0) (deg 0 15)
    ∷ reads "N000002" 3 (pos (deg 120 0)) (pos (deg 89 30)) (deg 120 0) (deg 0 15)
    ∷ reads "N000003" 3 (- (deg 120 0)) (pos (deg 89 30)) (deg 120 0) (deg 0 15)
    ∷ reads "S000000" 3 (pos 0) (- (deg 90 0)) (deg 360 0) (deg 0 15)
    ∷ reads "S000001" 3 (pos 0) (- (deg 89 45)) (deg 120 0) (deg 0 15)
    ∷ reads "S000002" 3 (pos (deg 120 0)) (- (deg 89 45)) (deg 120 0) (deg 0 15)
    ∷ reads "S000003" 3 (- (deg 120 0)) (- (deg 89 45)) (deg 120 0) (deg 0 15)
    -- level 3 of the disc's other cells: columns eastward, rows from the pole outward; and level 4 of one
    ∷ reads "N000010" 3 (pos 0) (pos (deg 89 15)) (deg 60 0) (deg 0 15)
    ∷ reads "N000011" 3 (pos (deg 60 0)) (pos (deg 89 15)) (deg 60 0) (deg 0 15)
    ∷ reads "N000012" 3 (pos 0) (pos (deg 89 0)) (deg 60 0) (deg 0 15)
    ∷ reads "N000013" 3 (pos (deg 60 0)) (pos (deg 89 0)) (deg 60 0) (deg 0 15)
    ∷ reads "N000021" 3 (- (deg 180 0)) (pos (deg 89 15)) (deg 60 0) (deg 0 15)
    ∷ reads "N000022" 3 (pos (deg 120 0)) (pos (deg 89 0)) (deg 60 0) (deg 0 15)
    ∷ reads "N000030" 3 (- (deg 120 0)) (pos (deg 89 15)) (deg 60 0) (deg 0 15)
    ∷ reads "N000033" 3 (- (deg 60 0)) (pos (deg 89 0)) (deg 60 0) (deg 0 15)
    ∷ reads "S000013" 3 (pos (deg 60 0)) (- (deg 89 15)) (deg 60 0) (deg 0 15)
    ∷ reads "S000020" 3 (pos (deg 120 0)) (- (deg 89 30)) (deg 60 0) (deg 0 15)
    ∷ reads "N0000112E" 4 (pos (deg 68 0)) (pos (deg 89 15)) (deg 4 0) (deg 0 1)
    -- level 4 of the cap: 15 rows of 1', row 0 the new cap, the others of 15 columns; row 0 with another column is refused at the row character
    ∷ reads "N00000000" 4 (pos 0) (pos (deg 89 59)) (deg 360 0) (deg 0 1)
    ∷ reads "N00000035" 4 (pos (deg 72 0)) (pos (deg 89 54)) (deg 24 0) (deg 0 1)
    ∷ reads "S00000035" 4 (pos (deg 72 0)) (- (deg 89 55)) (deg 24 0) (deg 0 1)
    ∷ stops "N00000010" 20 8
    -- level 5: 15 rows of 8,192 units
    ∷ reads "N0000000000" 5 (pos 0) (north_less 8192) (deg 360 0) 8192
    ∷ reads "N00000000E1" 5 (- (deg 24 0)) (north_less (2 * 8192)) (deg 24 0) 8192
    ∷ stops "N0000000010" 20 10
    -- level 6: the new cap is 0, the outer row's two halves are 2 and 3, and the digit 1 never occurs
    ∷ reads "N00000000000" 6 (pos 0) (north_less 4096) (deg 360 0) 4096
    ∷ reads "N00000000002" 6 (pos 0) (north_less (2 * 4096)) (deg 180 0) 4096
    ∷ reads "N00000000003" 6 (- (deg 180 0)) (north_less (2 * 4096)) (deg 180 0) 4096
    ∷ reads "S00000000003" 6 (- (deg 180 0)) (south_plus 4096) (deg 180 0) 4096
    ∷ stops "N00000000001" 20 11
    -- levels 7 to 10: 8 rows, row 0 the new cap, the others of 8 columns of 45°; row 0 with another column is refused at the row character
    ∷ reads "N0000000000000" 7 (pos 0) (north_less 512) (deg 360 0) 512
    ∷ reads "N0000000000053" 7 (- (deg 135 0)) (north_less (4 * 512)) (deg 45 0) 512
    ∷ stops "N0000000000010" 20 13
    ∷ reads "N000000000000000" 8 (pos 0) (north_less 64) (deg 360 0) 64
    ∷ reads "N000000000000071" 8 (- (deg 45 0)) (north_less (2 * 64)) (deg 45 0) 64
    ∷ stops "N000000000000020" 20 15
    ∷ reads "N00000000000000000" 9 (pos 0) (north_less 8) (deg 360 0) 8
    ∷ reads "N00000000000000037" 9 (pos (deg 135 0)) (north_less (8 * 8)) (deg 45 0) 8
    ∷ stops "N00000000000000070" 20 17
    ∷ reads "N0000000000000000000" 10 (pos 0) (north_less 1) (deg 360 0) 1
    ∷ reads "N0000000000000000046" 10 (- (deg 180 0)) (north_less 7) (deg 45 0) 1
    ∷ stops "N0000000000000000010" 20 19
    ∷ reads "S0000000000026" 7 (pos (deg 90 0)) (south_plus (6 * 512)) (deg 45 0) 512
    ∷ reads "S0000000000000000000" 10 (pos 0) (- (deg 90 0)) (deg 360 0) 1
    ∷ reads "S0000000000000000017" 10 (pos (deg 45 0)) (south_plus 7) (deg 45 0) 1
    -- written, one of each kind: the belt in the east and in the west, the disc, and the caps' rings level by level
    ∷ writes (pos 3) (pos (deg 150 0)) (pos (deg 88 15)) "N000203"
    ∷ writes (pos 3) (- (deg 150 0)) (pos (deg 88 0)) "N000210"
    ∷ writes (pos 3) (- (deg 150 0 + 1)) (pos (deg 88 0)) "N000211"
    ∷ writes (pos 3) (pos (deg 90 0)) (- (deg 88 45)) "S000131"
    ∷ writes (pos 3) (- 1) (- (deg 89 15)) "S000033"
    ∷ writes (pos 3) (- 1) (pos (deg 89 30)) "N000003"
    ∷ writes (pos 4) (pos (deg 72 0)) (pos (deg 89 54)) "N00000035"
    ∷ writes (pos 5) (- 1) (north_less (2 * 8192)) "N00000000E1"
    ∷ writes (pos 6) (- 1) (north_less (2 * 4096)) "N00000000003"
    ∷ writes (pos 6) (- 1) (north_less 4096) "N00000000000"
    ∷ writes (pos 7) (- (deg 135 0)) (north_less (4 * 512)) "N0000000000053"
    ∷ writes (pos 8) (- (deg 45 0)) (north_less (2 * 64)) "N000000000000071"
    ∷ writes (pos 9) (pos (deg 135 0)) (north_less (8 * 8)) "N00000000000000037"
    ∷ writes (pos 10) (- (deg 180 0)) (north_less 7) "N0000000000000000046"
    ∷ writes (pos 10) (pos (deg 45 0)) (south_plus 7) "S0000000000000000017"
    ∷ []

-- a place
abbrev pub place : String → String → Entry
place n c = record { name = bytes n; code = bytes c }

-- a place book of one entry, byte by byte: count 1; body at 6, a name of 4 bytes, a code of 11
abbrev pub mast : List ℕ
mast = 0 ∷ 1 ∷ 0 ∷ 6 ∷ 4 ∷ 11 ∷ bytes "mastN50J475492E"

-- one of four: the last place that is ordinary at level 5, a polar one, one of level 1; in bytes as they rise
abbrev pub four : List ℕ
four =
    0 ∷ 4 ∷ 0 ∷ 18 ∷ 2 ∷ 11 ∷ 0 ∷ 31 ∷ 1 ∷ 11 ∷ 0 ∷ 43 ∷ 1 ∷ 11 ∷ 0 ∷ 55 ∷ 1 ∷ 4
    ∷ bytes "10N31V075A9EE9N0000000000AN50J475492EaN31A"

-- place books and short codes (document 02, Wish 6), their bytes counted by hand
abbrev pub place_cases : List Case
place_cases =
    lists [] (0 ∷ 0 ∷ [])
    ∷ lists (place "mast" "N50J475492E" ∷ []) mast
    ∷ lists (place "10" "N31V075A9EE" ∷ place "9" "N0000000000" ∷ place "A" "N50J475492E" ∷ place "a" "N31A" ∷ []) four
    -- a name and the names about it
    ∷ finds mast "mast" 6 4 11
    ∷ misses mast "mas" 22
    ∷ misses mast "masts" 22
    ∷ misses mast "Mast" 22
    ∷ misses mast "" 22
    ∷ misses mast "mast-" 22
    ∷ misses (0 ∷ 0 ∷ []) "mast" 22
    -- names rise as bytes: not by length, and capital letters before small ones
    ∷ finds four "10" 18 2 11
    ∷ finds four "9" 31 1 11
    ∷ finds four "A" 43 1 11
    ∷ finds four "a" 55 1 4
    ∷ misses four "1" 22
    ∷ misses (0 ∷ 2 ∷ 0 ∷ 10 ∷ 1 ∷ 4 ∷ 0 ∷ 15 ∷ 2 ∷ 4 ∷ bytes "9N31A10N31A") "9" 21
    ∷ misses (0 ∷ 2 ∷ 0 ∷ 10 ∷ 1 ∷ 4 ∷ 0 ∷ 15 ∷ 1 ∷ 4 ∷ bytes "aN31AAN31A") "a" 21
    ∷ misses (0 ∷ 2 ∷ 0 ∷ 10 ∷ 1 ∷ 4 ∷ 0 ∷ 15 ∷ 1 ∷ 4 ∷ bytes "aN31AaN31A") "a" 21
    -- no bytes, one byte less and one more
    ∷ misses [] "mast" 21
    ∷ misses (0 ∷ []) "mast" 21
    ∷ misses (0 ∷ 1 ∷ 0 ∷ 6 ∷ 4 ∷ 11 ∷ bytes "mastN50J475492") "mast" 21
    ∷ misses (0 ∷ 1 ∷ 0 ∷ 6 ∷ 4 ∷ 11 ∷ bytes "mastN50J475492E0") "mast" 21
    -- the lower byte first, an offset from the bodies' start, a gap, an overlap
    ∷ misses (1 ∷ 0 ∷ 6 ∷ 0 ∷ 4 ∷ 11 ∷ bytes "mastN50J475492E") "mast" 21
    ∷ misses (0 ∷ 1 ∷ 0 ∷ 0 ∷ 4 ∷ 11 ∷ bytes "mastN50J475492E") "mast" 21
    ∷ misses (0 ∷ 1 ∷ 0 ∷ 7 ∷ 4 ∷ 11 ∷ bytes ".mastN50J475492E") "mast" 21
    ∷ misses (0 ∷ 2 ∷ 0 ∷ 10 ∷ 1 ∷ 4 ∷ 0 ∷ 14 ∷ 1 ∷ 4 ∷ bytes "!N31AN32A") "A" 21
    -- no name, a hyphen, codes that the plane reader refuses
    ∷ misses (0 ∷ 1 ∷ 0 ∷ 6 ∷ 0 ∷ 4 ∷ bytes "N31A") "" 21
    ∷ misses (0 ∷ 1 ∷ 0 ∷ 6 ∷ 3 ∷ 4 ∷ bytes "a-bN31A") "a-b" 21
    ∷ misses (0 ∷ 1 ∷ 0 ∷ 6 ∷ 1 ∷ 4 ∷ bytes "an31A") "a" 21
    ∷ misses (0 ∷ 1 ∷ 0 ∷ 6 ∷ 1 ∷ 0 ∷ bytes "a") "a" 21
    -- 64 bytes of a name, and 65
    ∷ finds (0 ∷ 1 ∷ 0 ∷ 6 ∷ 64 ∷ 4 ∷ bytes "0123456789012345678901234567890123456789012345678901234567890123N31A")
    "0123456789012345678901234567890123456789012345678901234567890123" 6 64 4
    ∷ misses (0 ∷ 1 ∷ 0 ∷ 6 ∷ 65 ∷ 4 ∷ bytes "01234567890123456789012345678901234567890123456789012345678901234N31A") "0" 21
    -- short codes: M east, N north; each refusal where those after it apply too
    ∷ follows mast "mast-10" "N50J475493E"
    ∷ follows four "10-0A" "N31V075A9ED"
    ∷ fails [] "-1?" 21 0
    ∷ fails mast "-1?" 6 0
    ∷ fails mast "" 6 0
    ∷ fails mast "mill+10" 7 4
    ∷ fails mast "millV?0" 20 4
    ∷ fails mast "mast--0" 7 5
    ∷ fails mast "mast-1H" 20 6
    ∷ fails mast "mill-10" 22 0
    ∷ fails mast "--10" 22 0
    ∷ fails mast "N50J475492E-10" 22 0
    ∷ fails four "a-8?" 20 2
    ∷ fails four "a-01" 8 0
    ∷ fails four "9-01" 8 0
    ∷ fails four "10-01" 12 0
    ∷ []

-- the table
abbrev pub cases : List Case
cases = paper_cases ++ (end_cases ++ (edition_cases ++ (kind_cases ++ (place_cases ++ polar_cases))))
