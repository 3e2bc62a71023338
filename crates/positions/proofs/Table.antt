-- The documents' cases, all of them at once: by computing. Assumes nothing.
use mathlib.Core.Path.{◌≡◌, refl}
use mathlib.Core.List.{map}
use Rattle.grid.specs.Characters.{char_of, digit_of}
use Rattle.grid.specs.Tree.{code, follow}
use Rattle.grid.specs.Answers.{wrong_number}
use Rattle.grid.specs.Codes.{code_in, read_in}
use Rattle.grid.specs.Ends.{unit_in}
use Rattle.grid.specs.Plane.{polar_cell_of, plane_codes, code_of, cell_of}
use Rattle.grid.specs.Layers.{edition_in}
use Rattle.grid.specs.Space.{space_codes, space_code_of, space_cell_of}
use Rattle.plane.specs.Text.{level_in, square_in, plane_text}
use Rattle.plane.specs.inner.Lengths.{level_of}
use Rattle.space.specs.Space.{space_text, layered_text}
use Rattle.distances.specs.Distances.{between}
use Rattle.reference.specs.Offsets.{moved_to, span_in}
use Rattle.reference.specs.Text.{fit, spelled, spanned, reference_text, target_of, offset_in, target_text}
use Rattle.places.specs.Book.{book_of}
use Rattle.places.specs.Reading.{fair, fair_at, entries_from, sized, entries_of}
use Rattle.places.specs.Finding.{found_in}
use Rattle.short_codes.specs.Text.{name_in, offset_of, short_text}
use Rattle.positions.specs.Cases.{given, said, cases}

pub all_hold : map given cases ≡ map said cases
unfolding unit_in level_in square_in edition_in plane_text level_of space_text layered_text reference_text spanned spelled fit between span_in target_text offset_in target_of moved_to code_of cell_of space_code_of space_cell_of code_in read_in code follow char_of digit_of wrong_number polar_cell_of plane_codes space_codes book_of fair fair_at entries_from sized entries_of found_in name_in offset_of short_text
all_hold = refl
