-- What is said of the faults of images.
use Rattle.std.specs.Prelude.{ℕ, List, ◌++◌, codes}
use Rattle.fmp_image_bytes.specs.declared.fault.ImageFault.{ImageFault}
use Rattle.fmp_image_bytes.specs.declared.fault.ImageFault.TheVariants.{Short, Magic, Version, Table, Code, Trailing}
use Rattle.fmp_image_bytes.specs.declared.fault.LoadFault.{LoadFault}
use Rattle.fmp_image_bytes.specs.declared.fault.LoadFault.TheVariants.{Image, Memory}

-- the code of a fault
abbrev pub image_code : ImageFault → List ℕ
image_code Short = codes "L1"
image_code Magic = codes "L2"
image_code Version = codes "L3"
image_code Table = codes "L4"
image_code Code = codes "L5"
image_code Trailing = codes "L6"

-- the code of the fault, after `image`
abbrev pub load_message : LoadFault → List ℕ
load_message (Image fault) = codes "image: " ++ image_code fault
load_message Memory = codes "memory"
