-- What the rows of an image refer to.
use Rattle.fmp_image_bytes.specs.Rows.{RowContext, context_of}
use Rattle.fmp_image_bytes.specs.declared.rows.ImageContext.{ImageContext}

abbrev pub rows_context : ImageContext → RowContext
rows_context c = context_of c.version c.processors c.heads.now
