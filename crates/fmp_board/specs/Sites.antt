-- The image and the row that stand where no board is.
use Rattle.std.specs.Prelude.{[]}
use Rattle.atomic_table.specs.Seated.{TableId}
use Rattle.fmp_base.specs.Systems.{without_objects}
use Rattle.fmp_image_bytes.specs.Images.{ImageTables, image_tables}
use Rattle.fmp_journal.specs.Seats.{RowId}

abbrev pub no_image : ImageTables
no_image = image_tables 3 (without_objects 1) [] []

abbrev pub no_table : TableId
no_table = record { words = 0; slots = 0; views_name = 0; atom = 0; block = 0; offset = 0; slot_names = [] }

abbrev pub no_row : RowId
no_row = record { table = no_table; capacity = 0; seats = 0 }
