-- What a disk's error makes of opening.
use Rattle.reg_journal.specs.declared.disk.DiskError.{DiskError}
use Rattle.reg_journal.specs.declared.disk.DiskError.TheVariants as disks
use Rattle.reg_journal.specs.declared.opening.JournalOpenError.{JournalOpenError}
use Rattle.reg_journal.specs.declared.opening.JournalOpenError.TheVariants.{Failed, OutOfMemory}

abbrev pub disk_refusal : DiskError → JournalOpenError
disk_refusal disks.OutOfMemory = OutOfMemory
disk_refusal disks.Failed = Failed
